pub mod Choosing
pub mod Coming
pub mod Weights
pub mod Classes
pub mod Programs
pub mod Found
