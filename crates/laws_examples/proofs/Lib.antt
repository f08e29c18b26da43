pub mod Examples
pub mod Needed
pub mod Useless
