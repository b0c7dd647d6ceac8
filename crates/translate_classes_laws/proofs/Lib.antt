pub mod LinkedNumbers
pub mod NamedCode
