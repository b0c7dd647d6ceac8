pub mod ClassSets
pub mod Waiting
pub mod Kept
pub mod NamedSets
pub mod Plain
pub mod NamedKept
