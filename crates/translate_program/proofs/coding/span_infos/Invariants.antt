use Rattle.std.proofs.Common.{◌≡◌}
use Rattle.translate_program.specs.Classes.{span_infos}
use Rattle.translate_program.proofs.coding.span_infos.Given as goal

abbrev pub invariant-loop-k : goal.invariant-loop-k
invariant-loop-k l = l.infos.items ≡ span_infos l.class l.part l.spans l.k
