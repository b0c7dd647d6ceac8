pub mod MethodLemmas
pub mod Spelled
pub mod FramedSpelled
