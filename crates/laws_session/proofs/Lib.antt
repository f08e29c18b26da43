pub mod Kept
pub mod Pieces
pub mod Whole
