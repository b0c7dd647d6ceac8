pub mod CodeFiles
pub mod DataFiles
pub mod Counts
pub mod OneCode
mod Translations
mod ProgramTranslation
