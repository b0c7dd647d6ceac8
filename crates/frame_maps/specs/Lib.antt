pub mod Framed
pub mod Walk
pub mod Placed
pub mod Checked
