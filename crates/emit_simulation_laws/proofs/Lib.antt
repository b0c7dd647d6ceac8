pub mod RegisterLaws
pub mod GuestFollows
mod MatchExamples
pub mod Signs
pub mod MatchedPages
pub mod ReadLemmas
pub mod Stores
pub mod Patches
pub mod LawfulUnits
pub mod PieceSets
