use Rattle.std.proofs.Common.{◌≡◌, ◌+◌, ◌*◌, ◌≤◌, length, take}
use Rattle.std.specs.Prelude.{sum_by}
use Rattle.method_splitter.specs.declared.span.Span.{Span}
use Rattle.translate_classes.specs.Making.{AddsMethods}
use Rattle.translate_classes.specs.Code.{span_plans}
use Rattle.translate_classes.specs.Blocks.{first_pieces}
use Rattle.translate_classes.proofs.spans.add_spans.Given as goal

abbrev pub invariant-loop-k : goal.invariant-loop-k
invariant-loop-k l =
    AddsMethods l.initial.class l.class (span_plans l.part l.spans l.references l.k)
    × (l.pieces.items ≡ first_pieces l.part l.spans l.k)
    × (length l.class.pool ≤ length l.initial.class.pool + (4 * l.k + 9 * sum_by (λ (s : Span). s.words) (take l.k l.spans)))
