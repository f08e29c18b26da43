pub mod Effects
pub mod Conflict
pub mod Refusal
pub mod Step
pub mod Feed
