pub mod SetLemmas
pub mod MarkLemmas
pub mod BlockLemmas
pub mod DependenceLemmas
mod Examples
