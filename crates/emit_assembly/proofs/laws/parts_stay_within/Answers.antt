use Rattle.emit_assembly.proofs.JoinLemmas.{within-joined}
use Rattle.emit_assembly.proofs.laws.parts_stay_within.Goals as goal

pub returns : goal.returns
returns c first second = within-joined first second
