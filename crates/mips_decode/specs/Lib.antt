pub mod FaultKinds
pub mod Encoding
pub mod Text
