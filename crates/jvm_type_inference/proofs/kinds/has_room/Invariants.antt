use Rattle.std.proofs.Common.{◌≡◌, ◌+◌, length}
use Rattle.jvm_definition.specs.Typing.{slots_of}
use Rattle.jvm_type_inference.proofs.kinds.has_room.Given as goal

abbrev pub invariant-loop-kind : goal.invariant-loop-kind
invariant-loop-kind l = slots_of l.rest + l.most ≡ slots_of l.stack + l.room

abbrev pub decreases-loop-kind : goal.decreases-loop-kind
decreases-loop-kind l = length l.rest
