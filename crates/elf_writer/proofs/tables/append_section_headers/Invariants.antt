use Rattle.std.proofs.Common.{◌≡◌, ◌++◌, length}
use Rattle.elf_definition.specs.File.{section_header_table}
use Rattle.elf_writer.proofs.tables.append_section_headers.Given as goal

-- what was appended, and what the rest will be, is what all are
abbrev pub invariant-loop-section : goal.invariant-loop-section
invariant-loop-section l =
    l.file.items ++ section_header_table l.start l.segments l.rest
    ≡ l.fn.file.items ++ section_header_table l.start l.segments l.sections

abbrev pub decreases-loop-section : goal.decreases-loop-section
decreases-loop-section l = length l.rest
