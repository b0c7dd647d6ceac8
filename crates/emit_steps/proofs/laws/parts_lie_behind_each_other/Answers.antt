use Rattle.emit_steps.proofs.Joining.{parts-lie}
use Rattle.emit_steps.proofs.laws.parts_lie_behind_each_other.Goals as goal

pub returns : goal.returns
returns c program m at first second within lies = parts-lie program m second first at within lies
