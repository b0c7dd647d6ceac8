use Rattle.std.proofs.Common.{◌≡◌, length}
use Rattle.jvm_definition.specs.Typing.{taken}
use Rattle.jvm_type_inference.proofs.stepping.takes.Given as goal

abbrev pub invariant-loop-kind : goal.invariant-loop-kind
invariant-loop-kind l = taken l.wanted l.stack ≡ taken l.kinds l.initial.stack

abbrev pub decreases-loop-kind : goal.decreases-loop-kind
decreases-loop-kind l = length l.wanted
