use Rattle.std.proofs.Common.{◌≡◌, length}
use Rattle.jvm_type_inference.specs.Joins.{locals_below}
use Rattle.jvm_type_inference.proofs.kinds.is_each_local_below.Given as goal

abbrev pub invariant-loop-other : goal.invariant-loop-other
invariant-loop-other l = locals_below l.rest l.above ≡ locals_below l.locals l.others

abbrev pub decreases-loop-other : goal.decreases-loop-other
decreases-loop-other l = length l.above
