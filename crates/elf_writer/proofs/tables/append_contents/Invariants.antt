use Rattle.std.proofs.Common.{◌≡◌, ◌++◌, length}
use Rattle.elf_definition.specs.File.{contents}
use Rattle.elf_definition.specs.FilePlaces.{contents_end}
use Rattle.elf_writer.proofs.tables.append_contents.Given as goal

-- what was appended, and what the rest will be, is what all are
abbrev pub invariant-loop-part : goal.invariant-loop-part
invariant-loop-part l =
    (contents_end l.at l.rest ≡ contents_end l.start l.segments)
    × (l.file.items ++ contents l.at l.rest ≡ l.fn.file.items ++ contents l.start l.segments)

abbrev pub decreases-loop-part : goal.decreases-loop-part
decreases-loop-part l = length l.rest
