pub mod Readings
pub mod FieldLaws
pub mod Combined
pub mod Signed
pub mod Parts
pub mod Loops
