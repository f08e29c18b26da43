pub mod Failed
pub mod Host
pub mod Sessions
pub mod Two
