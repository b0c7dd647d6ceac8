pub mod Spans
pub mod Answer
