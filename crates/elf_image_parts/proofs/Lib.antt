mod RunLemmas
pub mod RangeLemmas
