pub mod Parts
pub mod Pages
pub mod Words
pub mod Filling
pub mod Starting
