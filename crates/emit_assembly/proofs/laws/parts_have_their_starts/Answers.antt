use Rattle.emit_assembly.proofs.JoinLemmas.{starts-joined}
use Rattle.emit_assembly.proofs.laws.parts_have_their_starts.Goals as goal

pub returns : goal.returns
returns c at target first second = starts-joined at target first second
