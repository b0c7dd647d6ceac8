pub mod Calls
pub mod Holding
pub mod Units
pub mod Turning
pub mod Running
pub mod Setting
