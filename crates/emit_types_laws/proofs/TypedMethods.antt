pub mod Helpers
pub mod Choosing
pub mod Loading
