pub mod Files
pub mod Errors
pub mod System
pub mod Opened
pub mod Asked
pub mod Calls
pub mod Unix
