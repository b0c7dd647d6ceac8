pub mod Stretch
pub mod StretchLaws
pub mod Safety
