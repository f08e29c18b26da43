pub mod Crosses
pub mod Promises
pub mod Pieces
