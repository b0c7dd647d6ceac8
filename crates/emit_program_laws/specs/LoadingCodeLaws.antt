-- What crates above this one name of `emit_loading_laws`.
pub use Rattle.emit_loading_laws.specs.Images as Images
pub use Rattle.emit_loading_laws.specs.Leading as Leading
pub use Rattle.emit_loading_laws.specs.Loaded as Loaded
pub use Rattle.emit_loading_laws.specs.Made as Made
