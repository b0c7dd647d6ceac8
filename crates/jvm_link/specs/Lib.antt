pub mod Fields
pub mod Meant
pub mod Parameters
