pub mod Known
pub mod Meant
