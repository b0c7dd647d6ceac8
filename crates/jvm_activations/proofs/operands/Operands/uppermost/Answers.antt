use Rattle.std.proofs.Common.{◌-◌, arith}
use Rattle.std.proofs.lemmas.Grind.{common_steps}
use Rattle.jvm_activations.proofs.StackLemmas.{taken}
use Rattle.jvm_activations.proofs.operands.Operands.uppermost.Goals as goal

pub returns : goal.returns
returns c = grind (arith, common_steps, taken c.self.inside.slots.items c.self.inside.top (c.self.inside.top - c.args.count) c.args.count)
