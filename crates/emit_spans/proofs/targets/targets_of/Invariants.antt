use Rattle.std.proofs.Common.{◌≡◌, map}
use Rattle.emit_spans.specs.Pieces.{flagged, words_before}
use Rattle.emit_spans.specs.Laying.{entry_at}
use Rattle.emit_spans.proofs.targets.targets_of.Given as goal

abbrev pub invariant-loop-k : goal.invariant-loop-k
invariant-loop-k l = l.targets.items ≡ map (entry_at l.units (flagged l.leads) l.span) (words_before l.span l.k)
