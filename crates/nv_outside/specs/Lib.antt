pub mod Faults
pub mod Files
pub mod Gains
pub mod Seen
pub mod Script
pub mod MemSource
pub mod MemSink
pub mod MemShelf
