-- What crates above this one name of `emit_simulation_laws`.
pub use Rattle.emit_simulation_laws.specs.Lawful as Lawful
pub use Rattle.emit_simulation_laws.specs.UnitLaws as LawfulUnits
pub use Rattle.emit_simulation_laws.specs.Following as Following
pub use Rattle.emit_simulation_laws.specs.Helpers as Helpers
pub use Rattle.emit_simulation_laws.specs.Holding as Holding
pub use Rattle.emit_simulation_laws.specs.Sites as Sites
