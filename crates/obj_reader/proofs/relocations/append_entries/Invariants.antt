use Rattle.std.proofs.Common.{◌≡◌, ◌++◌, map}
use Rattle.std.specs.List.{range_with_len}
use Rattle.obj_reader.specs.Relocations.{relocation}
use Rattle.obj_reader.proofs.relocations.append_entries.Given as goal

-- the entries so far were appended
abbrev pub invariant-loop-k : goal.invariant-loop-k
invariant-loop-k l = l.relocations.items ≡ l.fn.relocations.items ++ map (relocation l.start l.b l.s) (range_with_len 0 l.k)
