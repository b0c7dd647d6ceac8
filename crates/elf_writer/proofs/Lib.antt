pub mod PlaceLemmas
pub mod AppendLemmas
pub mod LengthLemmas
pub mod ReadBackLemmas
