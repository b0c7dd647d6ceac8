pub mod Access
pub mod Fields
pub mod Helpers
pub mod Faulting
pub mod Computing
pub mod Accessing
pub mod Branching
pub mod Units
