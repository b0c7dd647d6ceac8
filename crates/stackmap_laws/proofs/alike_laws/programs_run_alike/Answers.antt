use Rattle.run_definition.specs.Answer.{next_answer}
use Rattle.stackmap_laws.proofs.RunLaws.{programs-run-alike}
use Rattle.stackmap_laws.proofs.alike_laws.programs_run_alike.Goals as goal

pub returns : goal.returns
returns c d = record {
  served = λ good p q words n k alike. programs-run-alike good p q alike words _ n k;
  listed = λ good p q words n answers alike. programs-run-alike good p q alike words next_answer n answers;
}
