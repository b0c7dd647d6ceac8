pub mod Loading
pub mod Storing
pub mod Linking
pub mod Multiplying
pub mod Counting
