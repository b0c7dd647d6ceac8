pub mod Parts
pub mod Loads
pub mod Stores
pub mod Products
pub mod Methods
