use Rattle.std.proofs.Common.{◌≡◌, ◌-◌, ◌<◌, ◌≤◌, length}
use Rattle.std.specs.Prelude.{find}
use Rattle.std.specs.List.{range_with_len}
use Rattle.block_builder.specs.Blocks.{ends}
use Rattle.emit_spans.specs.Pieces.{flagged}
use Rattle.emit_spans.proofs.pieces.last_word.Given as goal

-- no block ended before
abbrev pub invariant-loop-span : goal.invariant-loop-span
invariant-loop-span l = record {
  from : l.k ≤ l.last;
  within : l.last < l.span.end;
  same : find (ends l.units (flagged l.leads)) (range_with_len l.last (length l.units - l.last))
      ≡ find (ends l.units (flagged l.leads)) (range_with_len l.k (length l.units - l.k));
}

abbrev pub decreases-loop-span : goal.decreases-loop-span
decreases-loop-span l = l.span.end - l.last
