use Rattle.std.proofs.Common.{◌≡◌, true, length}
use Rattle.jvm_type_inference.proofs.kinds.are_same.Given as goal

abbrev pub invariant-loop-kind : goal.invariant-loop-kind
invariant-loop-kind l =
    (length l.rest ≡ length l.beside) × (l.same ≡ true → l.rest ≡ l.beside → l.kinds ≡ l.others)

abbrev pub decreases-loop-kind : goal.decreases-loop-kind
decreases-loop-kind l = length l.rest
