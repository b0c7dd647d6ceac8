use Rattle.std.proofs.Common.{◌≡◌, ◌≤◌, length, map}
use Rattle.std.specs.List.{range_with_len}
use Rattle.obj_reader.specs.Sections.{section}
use Rattle.obj_reader.proofs.sections.section_headers.Given as goal

-- the entries so far
abbrev pub invariant-loop-i : goal.invariant-loop-i
invariant-loop-i l = record {
  read : l.sections.items ≡ map (section l.start l.b) (range_with_len 0 l.i);
  few : length l.sections.items ≤ l.i;
}
