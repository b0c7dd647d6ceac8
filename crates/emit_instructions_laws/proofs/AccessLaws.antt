pub mod Arranging
pub mod Called
pub mod Orders
pub mod Loading
pub mod Linking
pub mod Multiplying
pub mod Storing
pub mod Conditional
