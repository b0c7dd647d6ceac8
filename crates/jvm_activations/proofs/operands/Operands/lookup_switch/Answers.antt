use Rattle.std.proofs.Common.{arith}
use Rattle.std.proofs.lemmas.Grind.{common_steps}
use Rattle.jvm_activations.proofs.KeyLemmas.{target_by_keys}
use Rattle.jvm_activations.proofs.operands.Operands.lookup_switch.Goals as goal

pub returns-clause-jumps : goal.returns-clause-jumps
returns-clause-jumps c = λ s e. grind (arith, common_steps, target_by_keys s.pairs)
