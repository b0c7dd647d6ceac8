pub mod FieldLaws
pub mod MeteredPrograms
pub mod Slices
