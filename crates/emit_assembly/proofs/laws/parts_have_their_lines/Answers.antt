use Rattle.emit_assembly.proofs.JoinLemmas.{lines-joined}
use Rattle.emit_assembly.proofs.laws.parts_have_their_lines.Goals as goal

pub returns : goal.returns
returns c at first second = lines-joined at first second
