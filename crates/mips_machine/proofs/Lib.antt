pub mod TrapLemmas
pub mod TurnLemmas
pub mod RegisterLemmas
pub mod FieldLemmas
pub mod LinkLemmas
pub mod MoveLemmas
pub mod GuestLaws
