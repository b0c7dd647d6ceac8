-- The length of a written file, and where each part's bytes stand in it.
use Rattle.std.proofs.Common.{◌≡◌, ℕ, ◌+◌, ◌*◌, List, [], ◌∷◌, length, arith, length-append, refl}
use Rattle.std.proofs.lemmas.List.{length-replicate}
use Rattle.elf_definition.specs.declared.part.Part.{Part}
use Rattle.elf_definition.specs.declared.parts.Parts.{Parts}
use Rattle.elf_definition.specs.declared.sec.Sec.{Sec}
use Rattle.elf_definition.specs.FilePlaces.{aligned, contents_place, part_end, contents_end, header_count, table_place, table_end, segments_end, file_length}
use Rattle.elf_definition.specs.File.{padding, elf_header, program_header_table, contents, section_header_table, section_table, elf_file}

pub length-elf_header : (entry table segments headers : ℕ) → length (elf_header entry table segments headers) ≡ 52
length-elf_header entry table segments headers = refl

pub length-padding : (at : ℕ) → length (padding at) + at ≡ aligned at
length-padding at = rw length-replicate (omega arith)

pub length-program_headers : (at : ℕ) (segments : List Part) → length (program_header_table at segments) ≡ 32 * length segments
length-program_headers at [] = refl
length-program_headers at (s ∷ segments) = omega (arith, length-program_headers (part_end at s) segments)

-- the contents reach from their place to their end
pub length-contents : (at : ℕ) (segments : List Part) → length (contents at segments) + at ≡ contents_end at segments
length-contents at [] = omega arith
length-contents at (s ∷ segments) =
    rw (length-append, length-append)
    (omega (arith, length-padding at, length-contents (part_end at s) segments))

pub length-section_headers : (at : ℕ) (segments : List Part) (sections : List Sec)
    → length (section_header_table at segments sections) ≡ 40 * length sections
length-section_headers at segments [] = refl
length-section_headers at segments (s ∷ sections) = omega (arith, length-section_headers at segments sections)

-- the section header table reaches from the end of what is before it to its own
pub length-section_table : (at : ℕ) (segments : List Part) (sections : List Sec)
    → length (section_table at segments sections) + at ≡ table_end at sections
length-section_table at segments [] = omega arith
length-section_table at segments (s ∷ sections) =
    rw (length-append, length-append)
    (omega (arith, length-padding at, length-section_headers (contents_place segments) segments (s ∷ sections)))

-- the file is as long as its parts' places say
pub length-elf_file : (parts : Parts) → length (elf_file parts) ≡ file_length parts
length-elf_file parts =
    let segments = parts.segments.items in
    let place = contents_place segments in
    rw (length-append, length-append, length-append)
    (omega (
      arith,
      length-program_headers place segments,
      length-contents place segments,
      length-section_table (segments_end parts) segments parts.sections.items,
      length-elf_header parts.entry (table_place (segments_end parts) parts.sections.items) (length segments) (header_count parts.sections.items),
    ))
