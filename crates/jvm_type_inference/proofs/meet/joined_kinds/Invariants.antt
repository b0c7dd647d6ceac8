use Rattle.std.proofs.Common.{◌≡◌, ◌++◌, length}
use Rattle.std.specs.Prelude.{option_map}
use Rattle.jvm_type_inference.specs.Joins.{joined_stacks}
use Rattle.jvm_type_inference.proofs.meet.joined_kinds.Given as goal

abbrev pub invariant-loop-kind : goal.invariant-loop-kind
invariant-loop-kind l =
    option_map (λ ks. l.kinds.items ++ ks) (joined_stacks l.rest l.beside) ≡ joined_stacks l.stack l.others

abbrev pub decreases-loop-kind : goal.decreases-loop-kind
decreases-loop-kind l = length l.rest
