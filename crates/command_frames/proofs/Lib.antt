pub mod FramesLemmas
pub mod CheckLemmas
pub mod StoreLemmas
pub mod WriteLemmas
pub mod TablingLemmas
pub mod DeterminedLemmas
