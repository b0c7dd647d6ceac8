use Rattle.std.proofs.Common.{◌≡◌, ◌≤◌, length, map}
use Rattle.std.specs.List.{range_with_len}
use Rattle.elf_definition.specs.Segments.{program_header}
use Rattle.elf_reader.proofs.segment_checks.read_program_headers.Given as goal

abbrev pub invariant-loop-i : goal.invariant-loop-i
invariant-loop-i l = record {
  read : l.headers.items ≡ map (program_header l.b) (range_with_len 0 l.i);
  few : length l.headers.items ≤ l.i;
}
