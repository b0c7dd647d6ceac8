-- What crates above this one name of `trampoline_laws`.
pub use Rattle.trampoline_laws.proofs.TrampolineLaws.Elements as Elements
pub use Rattle.trampoline_laws.proofs.TrampolineLaws.Order as Order
pub use Rattle.trampoline_laws.proofs.TrampolineLaws.Spans as Spans
pub use Rattle.trampoline_laws.proofs.TrampolineLaws.Words as Words
