pub mod Stored
pub mod Alike
pub mod StoredSets
pub mod Counted
