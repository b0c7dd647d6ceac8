use Rattle.std.proofs.Common.{◌≡◌, [], length}
use Rattle.jvm_definition.specs.Effect.{last_first}
use Rattle.jvm_definition.specs.Typing.{taken}
use Rattle.jvm_type_inference.proofs.stepping.takes_arguments.Given as goal

abbrev pub invariant-loop-kind : goal.invariant-loop-kind
invariant-loop-kind l = taken (last_first l.wanted []) l.stack ≡ taken (last_first l.parameters []) l.initial.stack

abbrev pub decreases-loop-kind : goal.decreases-loop-kind
decreases-loop-kind l = length l.wanted
