pub mod Values
pub mod Heaps
pub mod Memories
pub mod Effects
pub mod Turns
pub mod Runs
pub mod Starts
pub mod FramesBelow
pub mod Followed
mod Examples
