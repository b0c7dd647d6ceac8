use Rattle.emit_types_laws.proofs.TypedCode.Units.{unit-typed}
use Rattle.emit_types_laws.proofs.laws.units_are_typed.Goals as goal

pub returns : goal.returns
returns c unit rules bank known goal at room helpers lawful is = unit-typed unit rules bank known goal at room helpers lawful is
