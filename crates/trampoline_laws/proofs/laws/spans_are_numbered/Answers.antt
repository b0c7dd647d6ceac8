use Rattle.trampoline_laws.proofs.TrampolineLaws.Numbers.{lower-none, class-above, run-none, span-is}
use Rattle.trampoline_laws.proofs.laws.spans_are_numbered.Goals as goal

pub returns : goal.returns
returns c metered program order choose missing classes code t = record {
  spans = λ n a j at below. span-is classes n a j at below;
  runs = λ n a at. run-none t.low classes n a t.numbered at;
  above = λ n a at. class-above t.low classes n a t.numbered at;
  lower = λ m below. lower-none t.low classes m t.numbered below;
}
