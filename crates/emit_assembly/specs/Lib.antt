pub mod Assembling
pub mod Operations
