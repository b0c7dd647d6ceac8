pub mod Before
pub mod Members
pub mod Places
pub mod Distinct
pub mod Planned
pub mod Translated
pub mod Meaning
-- What crates above this one name of `emit_methods_laws`.
pub use Rattle.emit_methods_laws.specs.Naming as Naming
