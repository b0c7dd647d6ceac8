mod UnitLemmas
mod PartLemmas
pub mod TurnLemmas
pub mod PlaceLemmas
pub mod RunLemmas
pub mod LeadLemmas
mod Examples
