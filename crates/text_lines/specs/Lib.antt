pub mod Inner
pub mod Lines
