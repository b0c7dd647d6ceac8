pub mod Imaging
pub mod Listing
pub mod Assembly
pub mod Interp
pub mod Classes
