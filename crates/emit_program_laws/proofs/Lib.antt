pub mod GoingOn
mod ChoicePasses
pub mod TurnLaws
pub mod TranslationRuns
pub mod TrampolineLaws
