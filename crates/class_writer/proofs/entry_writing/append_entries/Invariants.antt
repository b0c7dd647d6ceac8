use Rattle.std.proofs.Common.{◌≡◌, ◌++◌, false, length}
use Rattle.std.specs.Prelude.{flat_map}
use Rattle.std.specs.List.{list_any}
use Rattle.class_writer.specs.Limits.{has_long_text}
use Rattle.class_writer.specs.Written.{entry_bytes}
use Rattle.class_writer.proofs.entry_writing.append_entries.Given as goal

abbrev pub invariant-loop-entry : goal.invariant-loop-entry
invariant-loop-entry l =
    (list_any has_long_text l.rest ≡ false) × (l.bytes.items ++ flat_map entry_bytes l.rest ≡ l.fn.bytes.items ++ flat_map entry_bytes l.entries)

abbrev pub decreases-loop-entry : goal.decreases-loop-entry
decreases-loop-entry l = length l.rest
