pub mod Limits
pub mod Written
