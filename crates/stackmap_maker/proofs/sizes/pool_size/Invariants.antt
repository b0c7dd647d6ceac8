use Rattle.std.proofs.Common.{◌≡◌, ◌+◌, length}
use Rattle.stackmap_maker.specs.Sizes.{pool_size}
use Rattle.stackmap_maker.proofs.sizes.pool_size.Given as goal

abbrev pub invariant-loop-entry : goal.invariant-loop-entry
invariant-loop-entry l = l.size + pool_size l.rest ≡ pool_size l.entries

abbrev pub decreases-loop-entry : goal.decreases-loop-entry
decreases-loop-entry l = length l.rest
