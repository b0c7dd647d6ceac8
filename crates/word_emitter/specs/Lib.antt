pub mod Pieces
pub mod Exits
