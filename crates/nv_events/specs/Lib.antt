pub mod Serving
pub mod Replies
pub mod Laws
pub mod Parts
pub mod ByPages
pub mod Counting
