pub mod NamedCode
pub mod WholeCode
