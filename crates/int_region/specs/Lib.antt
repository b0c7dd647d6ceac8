pub mod Arrays
pub mod Kept
