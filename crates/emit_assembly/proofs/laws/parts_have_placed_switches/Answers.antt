use Rattle.emit_assembly.proofs.JoinLemmas.{switches-joined}
use Rattle.emit_assembly.proofs.laws.parts_have_placed_switches.Goals as goal

pub returns : goal.returns
returns c at first second = switches-joined at first second
