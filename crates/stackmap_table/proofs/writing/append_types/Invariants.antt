use Rattle.std.proofs.Common.{◌≡◌, ◌++◌, take}
use Rattle.stackmap_table.specs.Written.{types_bytes}
use Rattle.stackmap_table.proofs.writing.append_types.Given as goal

abbrev pub invariant-loop-item : goal.invariant-loop-item
invariant-loop-item l = l.bytes.items ≡ l.fn.bytes.items ++ types_bytes (take l.item-index l.types)
