pub mod Stages
pub mod Pipelines
pub mod Turns
pub mod Alone
pub mod Stopping
