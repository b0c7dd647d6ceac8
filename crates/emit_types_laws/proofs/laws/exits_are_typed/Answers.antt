use Rattle.emit_types_laws.proofs.TypedCode.Exits.{exit-leads}
use Rattle.emit_types_laws.proofs.laws.exits_are_typed.Goals as goal

pub returns : goal.returns
returns c unit rules span behind at kind opens = exit-leads rules span opens behind unit at kind
