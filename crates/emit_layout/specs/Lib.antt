pub mod ClassNames
pub mod Fields
pub mod Helpers
pub mod Numbers
pub mod FieldNumbers
