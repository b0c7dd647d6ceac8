pub mod Writing
pub mod Leaving
pub mod Metering
pub mod Spending
pub mod Turning
pub mod Programs
pub mod Running
pub mod Slices
