use Rattle.std.proofs.Common.{arith}
use Rattle.emit_steps.proofs.Joining.{codes-follow}
use Rattle.emit_steps.proofs.laws.codes_follow_each_other.Goals as goal

pub returns : goal.returns
returns c program words first second w within = codes-follow program words second first 0 w (omega arith) within
