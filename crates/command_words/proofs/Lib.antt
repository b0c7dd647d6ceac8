pub mod Examples
pub mod NumberLemmas
pub mod NameLemmas
pub mod MadeLemmas
pub mod LimitLemmas
