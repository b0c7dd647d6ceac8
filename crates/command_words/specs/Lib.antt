pub mod Values
pub mod Meaning
pub mod Answers
pub mod Limits
