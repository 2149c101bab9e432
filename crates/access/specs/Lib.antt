pub mod Moves
pub mod Seek
