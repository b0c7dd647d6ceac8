use Rattle.std.proofs.Common.{◌≡◌, length}
use Rattle.stackmap_table.specs.Shortest.{trimmed_locals}
use Rattle.stackmap_table.proofs.table.trimmed.Given as goal

abbrev pub invariant-loop-last : goal.invariant-loop-last
invariant-loop-last l = trimmed_locals l.rest ≡ trimmed_locals l.locals

abbrev pub decreases-loop-last : goal.decreases-loop-last
decreases-loop-last l = length l.rest
