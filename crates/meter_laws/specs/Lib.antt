pub mod Meters
pub mod Laws
