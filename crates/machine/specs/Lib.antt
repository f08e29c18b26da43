pub mod Machine
pub mod Valid
