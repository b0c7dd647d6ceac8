pub mod Given
pub mod Starts
pub mod Going
pub mod Choosing
pub mod Ranges
pub mod Classes
pub mod Strays
pub mod Returning
