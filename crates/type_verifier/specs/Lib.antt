pub mod Refusal
pub mod Soundness
pub mod Typings
