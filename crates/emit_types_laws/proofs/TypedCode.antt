pub mod Registers
pub mod Instructions
pub mod Moving
pub mod Units
pub mod Pieces
pub mod Exits
pub mod Guards
pub mod Parts
