pub mod Serving
pub mod Paths
