pub mod LoadLemmas
pub mod LinkLemmas
