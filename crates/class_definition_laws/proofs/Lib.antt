pub mod ClassLaws
pub mod FramedClassLaws
pub mod TabledLaws
