pub mod Spans
pub mod Ranges
pub mod Parts
pub mod Classes
