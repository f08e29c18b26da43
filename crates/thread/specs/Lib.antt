pub mod Texasr
pub mod Thread
pub mod Turns
