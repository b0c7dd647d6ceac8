use Rattle.std.proofs.Common.{◌≡◌, length}
use Rattle.jvm_definition.specs.Typing.{stack_below}
use Rattle.jvm_type_inference.specs.Kinds.{put_above}
use Rattle.jvm_type_inference.proofs.kind_list.are_each_below.Given as goal

abbrev pub invariant-loop-beside : goal.invariant-loop-beside
invariant-loop-beside l =
    stack_below (put_above l.rest.above.now l.rest.below.now) (put_above l.beside.above.now l.beside.below.now)
    ≡ stack_below (put_above l.above l.below) (put_above l.other_above l.other_below)

abbrev pub decreases-loop-beside : goal.decreases-loop-beside
decreases-loop-beside l = length (put_above l.rest.above.now l.rest.below.now)
