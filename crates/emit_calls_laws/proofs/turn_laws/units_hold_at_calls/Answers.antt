use Rattle.emit_calls_laws.proofs.Units.{units-hold}
use Rattle.emit_calls_laws.proofs.turn_laws.units_hold_at_calls.Goals as goal

pub returns : goal.returns
returns c = units-hold c.code_is_paths.ensures
