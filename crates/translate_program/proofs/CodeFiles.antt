pub mod SpanLemmas
pub mod PlaceLemmas
pub mod RangeLemmas
pub mod WordLemmas
pub mod BlockLemmas
pub mod ClassLemmas
pub mod UnitLemmas
