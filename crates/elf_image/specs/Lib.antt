pub mod Whole
pub mod Answer
pub mod Kept
pub mod PageTable
