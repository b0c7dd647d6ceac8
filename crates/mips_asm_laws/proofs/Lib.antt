pub mod Sizes
pub mod Contents
pub mod Written
pub mod Checks
pub mod Areas
pub mod Programs
