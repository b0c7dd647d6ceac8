pub mod Results
pub mod Targets
pub mod Places
pub mod Meanings
pub mod Pages
pub mod KeptGroups
pub mod Ints
