use Rattle.std.proofs.Common.{◌≡◌, ◌≤◌, length, map}
use Rattle.std.specs.List.{range_with_len}
use Rattle.obj_reader.specs.Symbols.{symbol}
use Rattle.obj_reader.proofs.symbols.entries.Given as goal

-- the entries so far
abbrev pub invariant-loop-i : goal.invariant-loop-i
invariant-loop-i l = record {
  read : l.symbols.items ≡ map (symbol l.start l.b l.strings l.table.sh_offset) (range_with_len 0 l.i);
  few : length l.symbols.items ≤ l.i;
}
