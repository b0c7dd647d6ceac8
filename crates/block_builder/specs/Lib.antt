pub mod Registers
pub mod Leaders
pub mod Blocks
pub mod Dependence
pub mod Laws
