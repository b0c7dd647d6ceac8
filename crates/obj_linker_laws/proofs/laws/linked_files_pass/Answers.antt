use Rattle.std.proofs.Common.{◌≡◌, true, None, inl, inr, ◌⊎◌}
use Rattle.elf_definition.specs.Check.{fails}
use Rattle.elf_definition.specs.Fault.{elf_fault}
use Rattle.elf_definition.specs.declared.parts.Parts.{Parts}
use Rattle.obj_linker_laws.proofs.Files.{one_whole, one_without, two_whole, two_without}
use Rattle.obj_linker_laws.proofs.Shapes.{Lengths, OneSegment, TwoSegments, lengths, shaped}
use Rattle.obj_linker_laws.proofs.laws.linked_files_pass.Goals as goal

pub returns-clause-passes : goal.returns-clause-passes
returns-clause-passes c files entry file none is some = by (shaped files entry file none is).0 (shaped files entry file none is).1
  where
    known : Lengths files
    known = lengths files entry none

    by : (parts : Parts) → OneSegment files file parts ⊎ TwoSegments files file parts → elf_fault file ≡ None
    by parts (inl s) = one_whole file parts.entry _ 84 _ _ s known.code some
    by parts (inr s) = two_whole file parts.entry _ 116 _ _ _ _ _ s.1 known.code known.short s.0 some

pub returns-clause-no_code : goal.returns-clause-no_code
returns-clause-no_code c files entry file none is empty = by (shaped files entry file none is).0 (shaped files entry file none is).1
  where
    known : Lengths files
    known = lengths files entry none

    by : (parts : Parts) → OneSegment files file parts ⊎ TwoSegments files file parts → elf_fault file ≡ fails 21 true
    by parts (inl s) = one_without file parts.entry _ 84 _ _ s known.code empty
    by parts (inr s) = two_without file parts.entry _ 116 _ _ _ s.1 known.code empty
