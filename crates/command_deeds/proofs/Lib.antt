pub mod DeedLemmas
pub mod PieceLemmas
pub mod PlayLemmas
pub mod ReadyLemmas
mod StageLemmas
