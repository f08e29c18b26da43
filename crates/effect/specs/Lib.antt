pub mod Landed
pub mod Inner
