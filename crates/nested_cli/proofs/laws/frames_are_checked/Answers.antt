use Rattle.nested_cli.proofs.FramedLemmas.{frames-checked}
use Rattle.nested_cli.proofs.laws.frames_are_checked.Goals as goal

pub returns : goal.returns
returns c = frames-checked
