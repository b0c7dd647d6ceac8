pub mod ArrayLemmas
pub mod KeptLemmas
