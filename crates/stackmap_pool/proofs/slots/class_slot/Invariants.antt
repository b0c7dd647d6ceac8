use Rattle.std.proofs.Common.{◌≡◌, ◌+◌, length}
use Rattle.std.specs.List.{position_from}
use Rattle.stackmap_pool.specs.Longer.{is_class_of_name, class_slot}
use Rattle.stackmap_pool.proofs.slots.class_slot.Given as goal

abbrev pub invariant-loop-entry : goal.invariant-loop-entry
invariant-loop-entry l =
    (l.slot + length l.rest ≡ length l.pool + 1)
    × (position_from (is_class_of_name l.pool l.name) l.slot l.rest ≡ class_slot l.name l.pool)

abbrev pub decreases-loop-entry : goal.decreases-loop-entry
decreases-loop-entry l = length l.rest
