pub mod Bytes
pub mod Addressed
pub mod Atomic
