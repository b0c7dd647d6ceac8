pub mod Fields
pub mod Registers
pub mod Processor
pub mod Settling
pub mod Steps
pub mod Moving
pub mod Guest
