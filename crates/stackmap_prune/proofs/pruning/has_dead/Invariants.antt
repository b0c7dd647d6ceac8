use Rattle.std.proofs.Common.{◌≡◌, length}
use Rattle.stackmap_prune.specs.Code.{has_dead}
use Rattle.stackmap_prune.specs.Linked.{is_marked}
use Rattle.stackmap_prune.proofs.pruning.has_dead.Given as goal

abbrev pub invariant-loop-line : goal.invariant-loop-line
invariant-loop-line l = has_dead (is_marked l.marks) l.rest ≡ has_dead (is_marked l.marks) l.lines

abbrev pub decreases-loop-line : goal.decreases-loop-line
decreases-loop-line l = length l.rest
