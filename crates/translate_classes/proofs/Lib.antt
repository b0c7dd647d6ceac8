pub mod ClassMaking
pub mod CodeBlocks
pub mod ProgramNames
pub mod DataClasses
pub mod MainClasses
pub mod LawfulNames
pub mod Rooms
