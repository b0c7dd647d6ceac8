use Rattle.std.proofs.Common.{◌≡◌, ◌+◌, length}
use Rattle.jvm_type_inference.specs.Working.{tops_of}
use Rattle.jvm_type_inference.proofs.kind_list.all_tops.Given as goal

abbrev pub invariant-loop-kind : goal.invariant-loop-kind
invariant-loop-kind l = l.tops + tops_of l.rest ≡ tops_of l.kinds

abbrev pub decreases-loop-kind : goal.decreases-loop-kind
decreases-loop-kind l = length l.rest
