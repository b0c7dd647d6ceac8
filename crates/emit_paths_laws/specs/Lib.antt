pub mod Guest
pub mod Classes
pub mod Code
pub mod Paths
pub mod Fields
pub mod Laws
pub mod CountLaws
