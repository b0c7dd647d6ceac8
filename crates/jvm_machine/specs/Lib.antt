pub mod Rooms
pub mod Machine
pub mod Counting
