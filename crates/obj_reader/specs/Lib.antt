pub mod Fault
pub mod Files
pub mod Sections
pub mod Symbols
pub mod Ended
pub mod Relocations
pub mod Objects
