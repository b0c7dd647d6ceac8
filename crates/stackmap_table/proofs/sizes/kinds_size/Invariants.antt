use Rattle.std.proofs.Common.{◌≡◌, ◌+◌, ◌≤◌, length}
use Rattle.stackmap_table.specs.Forms.{kinds_size}
use Rattle.stackmap_table.proofs.sizes.kinds_size.Given as goal

abbrev pub invariant-loop-kind : goal.invariant-loop-kind
invariant-loop-kind l = (l.size + kinds_size l.rest ≡ kinds_size l.kinds) × (length l.rest ≤ 65535)

abbrev pub decreases-loop-kind : goal.decreases-loop-kind
decreases-loop-kind l = length l.rest
