use Rattle.std.proofs.Common.{◌∙◌}
use Rattle.trampoline_laws.specs.Classes.{counted_spans}
use Rattle.trampoline_laws.proofs.TrampolineLaws.Programs.{are-classes}
use Rattle.trampoline_laws.proofs.TrampolineLaws.Apart.{one-span-turned, none-has-both}
use Rattle.trampoline_laws.proofs.laws.spans_are_apart.Goals as goal

pub returns : goal.returns
returns c metered program order choose missing classes code t n a j at below =
    let are = are-classes program order choose missing classes code t in
    record {
      out = λ x y held apart. none-has-both classes n a j x y are t.ordered at below held apart;
      into = λ x y apart held. one-span-turned x y (counted_spans classes) ∙ none-has-both classes n a j y x are t.ordered at below held apart;
    }
