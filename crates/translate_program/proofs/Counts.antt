pub mod SpanLemmas
pub mod PlaceLemmas
pub mod StartLemmas
pub mod PageLemmas
pub mod BlockLemmas
