pub mod Spelling
pub mod Units
pub mod Sets
pub mod Needing
