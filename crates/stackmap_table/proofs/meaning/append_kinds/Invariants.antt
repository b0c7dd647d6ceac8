use Rattle.std.proofs.Common.{◌≡◌, ◌++◌, take}
use Rattle.std.specs.Prelude.{map}
use Rattle.stackmap_table.specs.Meaning.{table_kind}
use Rattle.stackmap_table.proofs.meaning.append_kinds.Given as goal

abbrev pub invariant-loop-item : goal.invariant-loop-item
invariant-loop-item l =
    l.kinds.items ≡ l.fn.kinds.items ++ map (table_kind l.pool) (take l.item-index l.types)
