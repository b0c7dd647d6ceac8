pub mod Offsets
pub mod Widths
pub mod Outcomes
pub mod Placing
pub mod Leading
pub mod Switches
pub mod Laws
pub mod Returning
