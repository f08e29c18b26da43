pub mod Secrecy
pub mod Erase
pub mod Corollaries
pub mod Runs
