pub mod Blocks
pub mod Stopping
pub mod Slicing
