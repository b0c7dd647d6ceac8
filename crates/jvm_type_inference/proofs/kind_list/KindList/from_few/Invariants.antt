use Rattle.std.proofs.Common.{◌≡◌, ◌++◌, length}
use Rattle.jvm_type_inference.proofs.kind_list.KindList.from_few.Given as goal

abbrev pub invariant-loop-kind : goal.invariant-loop-kind
invariant-loop-kind l = l.rest ++ l.list ≡ l.kinds

abbrev pub decreases-loop-kind : goal.decreases-loop-kind
decreases-loop-kind l = length l.rest
