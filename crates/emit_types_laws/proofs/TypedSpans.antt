pub mod Names
pub mod Places
pub mod Parts
pub mod Fronts
pub mod Whole
