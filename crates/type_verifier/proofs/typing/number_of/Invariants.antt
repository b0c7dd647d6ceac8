use Rattle.std.proofs.Common.{◌≡◌, ◌+◌, length}
use Rattle.type_verifier.specs.Refusal.{methods_before}
use Rattle.type_verifier.proofs.typing.number_of.Given as goal

abbrev pub invariant-loop-c : goal.invariant-loop-c
invariant-loop-c l = l.number + methods_before l.rest l.before ≡ methods_before l.classes l.class + l.method

abbrev pub decreases-loop-c : goal.decreases-loop-c
decreases-loop-c l = length l.rest
