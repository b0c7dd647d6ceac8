-- What crates above this one name of `emit_instructions_laws`.
pub use Rattle.emit_instructions_laws.specs.Counting as Counting
pub use Rattle.emit_instructions_laws.specs.Instructions as Instructions
pub use Rattle.emit_instructions_laws.specs.Pieces as Pieces
pub use Rattle.emit_instructions_laws.specs.Steps as Steps
