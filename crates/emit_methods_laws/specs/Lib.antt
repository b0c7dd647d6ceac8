pub mod Naming
pub mod Whole
