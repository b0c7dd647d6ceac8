-- What a file may be written of.
use Rattle.std.specs.Prelude.{◌≤◌, length}
use Rattle.elf_definition.specs.declared.parts.Parts.{Parts}
use Rattle.elf_definition.specs.FilePlaces.{file_length}

-- 1 to 65,534 segments, at most 65,534 sections, and a file of at most 67,108,864 bytes
abbrev pub IsWritable : Parts → Type 0
IsWritable parts =
    (1 ≤ length parts.segments.items) × (length parts.segments.items ≤ 65534)
    × (length parts.sections.items ≤ 65534) × (file_length parts ≤ 67108864)
