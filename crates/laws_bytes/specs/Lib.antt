pub mod Bytes
pub mod Atomic
