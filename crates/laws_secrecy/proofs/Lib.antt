pub mod Effects
pub mod Struck
pub mod Step
pub mod Secrecy
pub mod Erase
pub mod Corollaries
pub mod Runs
