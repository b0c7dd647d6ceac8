use Rattle.emit_types_laws.proofs.TypedCode.Instructions.{instruction-typed}
use Rattle.emit_types_laws.proofs.laws.instructions_are_typed.Goals as goal

pub returns : goal.returns
returns c i e rules bank known goal at helpers a = instruction-typed i e rules bank known goal at helpers a
