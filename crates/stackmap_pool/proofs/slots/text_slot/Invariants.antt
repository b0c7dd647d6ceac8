use Rattle.std.proofs.Common.{◌≡◌, ◌+◌, length}
use Rattle.std.specs.List.{position_from}
use Rattle.stackmap_pool.specs.Longer.{is_text_entry, first_text_slot}
use Rattle.stackmap_pool.proofs.slots.text_slot.Given as goal

abbrev pub invariant-loop-entry : goal.invariant-loop-entry
invariant-loop-entry l =
    (l.slot + length l.rest ≡ length l.pool + 1)
    × (position_from (is_text_entry l.text) l.slot l.rest ≡ first_text_slot l.text l.pool)

abbrev pub decreases-loop-entry : goal.decreases-loop-entry
decreases-loop-entry l = length l.rest
