pub mod SetLemmas
pub mod StageLemmas
pub mod ListLemmas
pub mod DueLemmas
