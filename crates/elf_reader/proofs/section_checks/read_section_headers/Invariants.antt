use Rattle.std.proofs.Common.{◌≡◌, ◌≤◌, length, map}
use Rattle.std.specs.List.{range_with_len}
use Rattle.elf_definition.specs.Sections.{section_header}
use Rattle.elf_reader.proofs.section_checks.read_section_headers.Given as goal

abbrev pub invariant-loop-i : goal.invariant-loop-i
invariant-loop-i l = record {
  read : l.sections.items ≡ map (section_header l.b) (range_with_len 0 l.i);
  few : length l.sections.items ≤ l.i;
}
