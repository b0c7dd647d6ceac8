pub mod Given
pub mod Counting
pub mod Loading
pub mod Running
