use Rattle.std.proofs.Common.{◌≡◌, ◌++◌, length}
use Rattle.stackmap_pool.proofs.copies.copies_of.Given as goal

abbrev pub invariant-loop-entry : goal.invariant-loop-entry
invariant-loop-entry l = l.copies.items ++ l.rest ≡ l.entries

abbrev pub decreases-loop-entry : goal.decreases-loop-entry
decreases-loop-entry l = length l.rest
