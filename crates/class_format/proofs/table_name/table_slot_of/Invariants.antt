use Rattle.std.proofs.Common.{◌≡◌, ◌+◌, length}
use Rattle.std.specs.List.{position_from}
use Rattle.class_definition.specs.Tables.{is_table_name, table_slot}
use Rattle.class_format.proofs.table_name.table_slot_of.Given as goal

abbrev pub invariant-loop-entry : goal.invariant-loop-entry
invariant-loop-entry l =
    (l.slot + length l.rest ≡ length l.entries + 1)
    × (position_from is_table_name l.slot l.rest ≡ table_slot l.entries)

abbrev pub decreases-loop-entry : goal.decreases-loop-entry
decreases-loop-entry l = length l.rest
