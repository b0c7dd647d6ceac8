pub mod Offsets
pub mod SizeLemmas
mod Lying
mod Joining
mod Counting
mod Calling
pub mod WidthLemmas
