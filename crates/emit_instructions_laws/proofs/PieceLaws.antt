pub mod Fetching
pub mod Within
pub mod Turns
pub mod Sets
pub mod Behind
pub mod Running
pub mod Arriving
pub mod Pieces
