pub mod Pruned
pub mod Code
pub mod Listing
pub mod Linked
