use Rattle.std.proofs.Common.{◌≡◌, length}
use Rattle.jvm_type_inference.specs.Marks.{AreMarked}
use Rattle.jvm_type_inference.proofs.blocks.blocks_of.Given as goal

abbrev pub invariant-loop-at : goal.invariant-loop-at
invariant-loop-at l =
    AreMarked l.code.method.now l.marks.leaders.items l.marks.before.items l.latest l.at
    × (length l.marks.before.items ≡ length l.code.starts.items)
