pub mod Instructions
pub mod Units
pub mod Past
pub mod Pieces
pub mod Counting
pub mod Steps
