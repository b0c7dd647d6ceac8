mod ChoiceLaws
pub mod TrampolineLaws
