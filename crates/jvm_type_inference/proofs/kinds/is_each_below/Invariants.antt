use Rattle.std.proofs.Common.{◌≡◌, length}
use Rattle.jvm_definition.specs.Typing.{stack_below}
use Rattle.jvm_type_inference.proofs.kinds.is_each_below.Given as goal

abbrev pub invariant-loop-kind : goal.invariant-loop-kind
invariant-loop-kind l = stack_below l.rest l.above ≡ stack_below l.stack l.others

abbrev pub decreases-loop-kind : goal.decreases-loop-kind
decreases-loop-kind l = length l.rest
