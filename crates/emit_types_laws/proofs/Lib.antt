pub mod TypedSteps
pub mod TypedCode
pub mod TypedMethods
mod TypedSpans
