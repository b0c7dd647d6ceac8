use Rattle.emit_types_laws.proofs.TypedCode.Guards.{guard-leads}
use Rattle.emit_types_laws.proofs.laws.guards_are_typed.Goals as goal

pub returns : goal.returns
returns c unit rules at = guard-leads rules unit at
