pub mod Limits
pub mod ReadBack
