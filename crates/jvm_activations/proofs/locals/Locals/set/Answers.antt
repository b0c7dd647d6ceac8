use Rattle.std.proofs.Common.{arith}
use Rattle.std.proofs.lemmas.Grind.{common_steps}
use Rattle.std.proofs.Math.Seq.{take-set-lt}
use Rattle.jvm_activations.proofs.locals.Locals.set.Goals as goal

pub returns : goal.returns
returns c = grind (arith, common_steps, take-set-lt)
