pub mod Touching
pub mod Instructions
pub mod Transfers
pub mod Units
pub mod Ways
pub mod Once
pub mod Lines
pub mod Stretches
