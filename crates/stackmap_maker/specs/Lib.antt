pub mod Sizes
pub mod Refusals
pub mod Full
pub mod Made
