pub mod Together
pub mod Leaving
pub mod Holding
pub mod Untrapped
pub mod Slicing
pub mod Adding
pub mod Beginning
