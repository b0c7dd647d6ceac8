use Rattle.std.proofs.Common.{◌≡◌, ◌++◌, length}
use Rattle.jvm_type_inference.specs.Joins.{joined_locals}
use Rattle.jvm_type_inference.proofs.meet.joined_locals.Given as goal

abbrev pub invariant-loop-kind : goal.invariant-loop-kind
invariant-loop-kind l = l.kinds.items ++ joined_locals l.rest l.beside ≡ joined_locals l.locals l.others

abbrev pub decreases-loop-kind : goal.decreases-loop-kind
decreases-loop-kind l = length l.rest
