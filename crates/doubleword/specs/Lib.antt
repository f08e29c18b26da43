pub mod Doubleword
pub mod Inner
