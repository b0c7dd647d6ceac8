use Rattle.std.proofs.Common.{◌≡◌, ◌+◌, ◌*◌, ◌≤◌, ◌++◌, length}
use Rattle.std.specs.List.{All}
use Rattle.obj_reader.specs.Files.{files_of, IsShort}
use Rattle.obj_reader.specs.Objects.{objects_fault_from, sections_from, symbols_from, relocations_from, first_start}
use Rattle.obj_reader.proofs.tables.read_objects.Given as goal

-- what is left gives what is not there yet, and the first fault
abbrev pub invariant-loop-object : goal.invariant-loop-object
invariant-loop-object l = record {
  sections : l.tables.sections.items ++ sections_from l.start (files_of l.rest) ≡ sections_from first_start (files_of l.objects);
  symbols : l.tables.symbols.items ++ symbols_from l.start (files_of l.rest) ≡ symbols_from first_start (files_of l.objects);
  relocations : l.tables.relocations.items ++ relocations_from l.start (files_of l.rest) ≡ relocations_from first_start (files_of l.objects);
  passed : objects_fault_from l.start (files_of l.rest) ≡ objects_fault_from first_start (files_of l.objects);
  short : All IsShort (files_of l.rest);
  few : l.start.object + length l.rest ≤ 256;
  few_sections : l.start.section ≤ 65536 * l.start.object;
  few_symbols : l.start.symbol ≤ 4194304 * l.start.object;
}

abbrev pub decreases-loop-object : goal.decreases-loop-object
decreases-loop-object l = length l.rest
