use Rattle.std.proofs.Common.{◌≡◌, ◌+◌, ◌-◌}
use Rattle.std.specs.Prelude.{find}
use Rattle.std.specs.List.{range_with_len}
use Rattle.emit_spans.specs.Pieces.{flagged}
use Rattle.emit_spans.specs.Neighbours.{is_inner}
use Rattle.emit_spans.proofs.neighbours.next_inner.Given as goal

-- no word between passes
abbrev pub invariant-loop-word : goal.invariant-loop-word
invariant-loop-word l =
    find (is_inner (flagged l.leads) l.span) (range_with_len l.word (l.span.end - l.word))
    ≡ find (is_inner (flagged l.leads) l.span) (range_with_len (l.k + 1) (l.span.end - (l.k + 1)))
