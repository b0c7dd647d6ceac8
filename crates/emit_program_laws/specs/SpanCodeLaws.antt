-- What crates above this one name of `emit_spans_laws`.
pub use Rattle.emit_spans_laws.specs.Entering as Entering
pub use Rattle.emit_spans_laws.specs.GuestFollows.Following as Following
pub use Rattle.emit_spans_laws.specs.GuestFollows.Helpers as Helpers
pub use Rattle.emit_spans_laws.specs.GuestCodeLaws.Instructions as Instructions
pub use Rattle.emit_spans_laws.specs.GuestFollows.Lawful as Lawful
pub use Rattle.emit_spans_laws.specs.GuestFollows.LawfulUnits as LawfulUnits
pub use Rattle.emit_spans_laws.specs.Made as Made
pub use Rattle.emit_spans_laws.specs.GuestCodeLaws.Pieces as Pieces
pub use Rattle.emit_spans_laws.specs.Registers as Registers
pub use Rattle.emit_spans_laws.specs.Resuming as Resuming
pub use Rattle.emit_spans_laws.specs.GuestFollows.Sites as Sites
pub use Rattle.emit_spans_laws.specs.Spans as Spans
