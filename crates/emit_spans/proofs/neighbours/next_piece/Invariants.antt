use Rattle.std.proofs.Common.{◌≡◌, ◌+◌, ◌-◌}
use Rattle.std.specs.Prelude.{find}
use Rattle.std.specs.List.{range_with_len}
use Rattle.emit_spans.specs.Pieces.{flagged}
use Rattle.emit_spans.specs.Pieces.{begins}
use Rattle.emit_spans.proofs.neighbours.next_piece.Given as goal

-- no word between passes
abbrev pub invariant-loop-next : goal.invariant-loop-next
invariant-loop-next l =
    find (begins (flagged l.leads) l.span) (range_with_len l.next (l.span.end - l.next))
    ≡ find (begins (flagged l.leads) l.span) (range_with_len (l.k + 1) (l.span.end - (l.k + 1)))
