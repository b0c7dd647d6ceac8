use Rattle.emit_assembly.proofs.JoinLemmas.{known-joined}
use Rattle.emit_assembly.proofs.laws.parts_are_known.Goals as goal

pub returns : goal.returns
returns c r classes number class gives first second = known-joined r classes number class gives first second
