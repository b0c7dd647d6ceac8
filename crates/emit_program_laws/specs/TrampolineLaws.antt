-- What crates above this one name of `trampoline_laws`.
pub use Rattle.trampoline_laws.specs.Choosing as Choosing
pub use Rattle.trampoline_laws.specs.Classes as Classes
pub use Rattle.trampoline_laws.specs.Programs as Programs
