use Rattle.emit_assembly.proofs.JoinLemmas.{operations-joined}
use Rattle.emit_assembly.proofs.laws.parts_have_operations.Goals as goal

pub returns : goal.returns
returns c r first second = operations-joined r first second
