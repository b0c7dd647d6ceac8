use Rattle.std.proofs.Common.{◌≡◌, drop}
use Rattle.elf_definition.specs.Segments.{overlap_from}
use Rattle.elf_reader.proofs.overlap.check_overlap.Given as goal

abbrev pub invariant-loop-i : goal.invariant-loop-i
invariant-loop-i l = overlap_from 0 l.headers ≡ overlap_from l.i (drop l.i l.headers)
