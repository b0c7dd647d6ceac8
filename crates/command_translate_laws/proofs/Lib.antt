pub mod NamedRunLemmas
pub mod StandLemmas
pub mod TranslatedLemmas
