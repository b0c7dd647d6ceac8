use Rattle.std.proofs.Common.{◌-◌, ◌≤◌, length}
use Rattle.translate_classes.specs.Called.{BeginsWith}
use Rattle.translate_classes.proofs.references.fill_up.Given as goal

abbrev pub invariant-loop-slots : goal.invariant-loop-slots
invariant-loop-slots l = BeginsWith l.initial.slots.items l.slots.items × (length l.slots.items ≤ l.count)

abbrev pub decreases-loop-slots : goal.decreases-loop-slots
decreases-loop-slots l = l.count - length l.slots.items
