pub mod Value
pub mod Feeding
