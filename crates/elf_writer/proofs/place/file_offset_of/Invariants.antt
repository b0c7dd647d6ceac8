use Rattle.std.proofs.Common.{◌≡◌, length}
use Rattle.elf_definition.specs.FilePlaces.{contents_end, file_offset}
use Rattle.elf_writer.proofs.place.file_offset_of.Given as goal

-- no segment so far holds the address: its offset in the rest is its offset in them all
abbrev pub invariant-loop-part : goal.invariant-loop-part
invariant-loop-part l =
    (contents_end l.at l.rest ≡ contents_end l.start l.segments)
    × (file_offset l.at l.rest l.address ≡ file_offset l.start l.segments l.address)

abbrev pub decreases-loop-part : goal.decreases-loop-part
decreases-loop-part l = length l.rest
