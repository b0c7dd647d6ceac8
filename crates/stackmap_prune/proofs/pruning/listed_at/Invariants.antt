use Rattle.std.proofs.Common.{length}
use Rattle.stackmap_prune.proofs.SearchLaws.{Searches}
use Rattle.stackmap_prune.proofs.pruning.listed_at.Given as goal

abbrev pub invariant-loop-rest : goal.invariant-loop-rest
invariant-loop-rest l = Searches l.listed l.at l.rest

abbrev pub decreases-loop-rest : goal.decreases-loop-rest
decreases-loop-rest l = length l.rest
