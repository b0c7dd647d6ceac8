pub mod Weights
pub mod Leaving
pub mod InSpans
