pub mod Value
pub mod Feeding
pub mod Session
