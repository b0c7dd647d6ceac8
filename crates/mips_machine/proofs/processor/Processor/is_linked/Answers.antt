use Rattle.std.proofs.Common.{ℕ, Bool, false, ◌==◌, Option, Some, None, ap, sym}
use Rattle.mips_machine.specs.Processor.{processor_state}
use Rattle.mips_machine.proofs.processor.Processor.is_linked.Goals as goal

pub returns-in-Some : goal.returns-in-Some
unfolding processor_state
returns-in-Some c = ap (λ (o : Option ℕ). elim o as (λ _. Bool) [ None ↦ false | Some at ↦ at == c.args.at ]) (sym c.in-Some.is)
