use Rattle.emit_assembly.proofs.JoinLemmas.{size-joined}
use Rattle.emit_assembly.proofs.laws.parts_have_their_bytes.Goals as goal

pub returns : goal.returns
returns c first second = size-joined first second
