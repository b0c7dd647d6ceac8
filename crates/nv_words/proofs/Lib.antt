pub mod LaneLemmas
pub mod WrapLemmas
