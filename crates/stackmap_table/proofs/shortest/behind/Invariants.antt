use Rattle.std.proofs.Common.{length}
use Rattle.stackmap_table.proofs.PrefixLaws.{IsMatching}
use Rattle.stackmap_table.proofs.shortest.behind.Given as goal

abbrev pub invariant-loop-kind : goal.invariant-loop-kind
invariant-loop-kind l = IsMatching l.front l.kinds l.wanted l.rest

abbrev pub decreases-loop-kind : goal.decreases-loop-kind
decreases-loop-kind l = length l.wanted
