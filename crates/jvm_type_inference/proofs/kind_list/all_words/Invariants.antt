use Rattle.std.proofs.Common.{◌≡◌, ◌+◌, length}
use Rattle.jvm_definition.specs.Typing.{slots_of}
use Rattle.jvm_type_inference.proofs.kind_list.all_words.Given as goal

abbrev pub invariant-loop-kind : goal.invariant-loop-kind
invariant-loop-kind l = l.words + slots_of l.rest ≡ slots_of l.kinds

abbrev pub decreases-loop-kind : goal.decreases-loop-kind
decreases-loop-kind l = length l.rest
