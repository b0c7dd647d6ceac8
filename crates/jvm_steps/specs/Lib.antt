pub mod Standing
pub mod Settling
pub mod Leading
pub mod Hosting
pub mod Loading
pub mod Named
pub mod Decoded
