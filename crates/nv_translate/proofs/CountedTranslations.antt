pub mod Spans
pub mod Paired
