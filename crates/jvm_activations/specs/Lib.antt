pub mod Stack
pub mod Variables
pub mod Trap
pub mod Forms
pub mod Keys
pub mod Frames
pub mod Waiting
