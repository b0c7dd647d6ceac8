pub mod Relocation
pub mod Below
pub mod Laws
