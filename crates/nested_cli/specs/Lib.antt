pub mod Usage
pub mod Faults
pub mod Line
pub mod Commands
pub mod Laws
pub mod ByName
