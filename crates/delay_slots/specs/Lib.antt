pub mod Places
pub mod Units
pub mod Turns
pub mod Laws
