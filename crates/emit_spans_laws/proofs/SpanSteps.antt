pub mod Lists
pub mod Alone
pub mod Parts
pub mod Inner
pub mod Middle
pub mod Entering
pub mod Plain
pub mod Last
