pub mod SpanLemmas
pub mod ShareLemmas
