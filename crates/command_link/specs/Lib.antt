pub mod Loading
pub mod Linking
