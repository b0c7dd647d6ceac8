pub mod Sets
pub mod Pipe
