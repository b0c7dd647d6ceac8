pub mod Ranges
pub mod Names
pub mod MethodBytes
pub mod RegionWords
pub mod PipeBytes
pub mod MeterTurns
