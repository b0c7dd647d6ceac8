use Rattle.trampoline_laws.proofs.TrampolineLaws.Programs.{methods, span-methods}
use Rattle.trampoline_laws.proofs.laws.chosen_are_methods.Goals as goal

pub returns : goal.returns
returns c metered program order choose missing classes code t = record {
  of_classes = methods program order choose missing classes code t;
  of_spans = span-methods program order choose missing classes code t;
}
