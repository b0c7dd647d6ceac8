-- The parts of a written file, by what its segments hold.
use Rattle.std.proofs.Common.{◌≡◌, ℕ, ◌+◌, ◌*◌, ◌≤◌, List, [], ◌∷◌, ◌++◌, length, length-append, map, drop, replicate, refl, sym, ap, ◌∙◌, arith, append_assoc}
use Rattle.std.proofs.lemmas.List.{drop_at, length-map}
use Rattle.elf_definition.specs.declared.part.Part.{Part}
use Rattle.elf_definition.specs.declared.parts.Parts.{Parts}
use Rattle.elf_definition.specs.declared.sec.Sec.{Sec}
use Rattle.elf_definition.specs.FileFields.{words}
use Rattle.elf_definition.specs.FilePlaces.{aligned, part_end, contents_place, contents_end, table_end, segments_end, table_place, header_count}
use Rattle.elf_definition.specs.File as writer
use Rattle.elf_writer.proofs.LengthLemmas.{length-contents, length-elf_file, length-elf_header, length-padding, length-program_headers}
use Rattle.elf_definition.specs.Parts.{PartSegment as Content, part_segment}

-- ---- the bytes of the program headers, and the end of the bytes of the segments
abbrev pub header_bytes : ℕ → List Content → List ℕ
header_bytes at [] = []
header_bytes at (s ∷ segments) =
    words (1 ∷ aligned at ∷ s.address ∷ s.address ∷ length s.contents ∷ s.memory ∷ s.flags ∷ 4 ∷ [])
    ++ header_bytes (aligned at + length s.contents) segments

same_bytes : (at : ℕ) (parts : List Part) → writer.program_header_table at parts ≡ header_bytes at (map part_segment parts)
same_bytes at [] = refl
same_bytes at (s ∷ parts) = ap (λ bytes. writer.program_header_bytes (aligned at) s ++ bytes) (same_bytes (part_end at s) parts)

abbrev pub end_of : ℕ → List Content → ℕ
end_of at [] = at
end_of at (s ∷ segments) = end_of (aligned at + length s.contents) segments

same_end : (at : ℕ) (parts : List Part) → contents_end at parts ≡ end_of at (map part_segment parts)
same_end at [] = refl
same_end at (s ∷ parts) = same_end (part_end at s) parts

-- the bytes of the segments begin behind the headers
abbrev pub place_of : List Content → ℕ
place_of segments = 52 + 32 * length segments

same_place : (parts : List Part) (segments : List Content) → map part_segment parts ≡ segments → contents_place parts ≡ place_of segments
same_place parts segments are = ap (λ n. 52 + 32 * n) (sym (length-map parts part_segment) ∙ ap (λ ss. length ss) are)

-- ---- the file
-- it begins with its header and its program headers
pub begins : (parts : Parts) (segments : List Content) → map part_segment parts.segments.items ≡ segments
    → (ys : List ℕ)
    × (writer.elf_file parts ≡ writer.elf_header parts.entry (table_place (segments_end parts) parts.sections.items) (length segments) (header_count parts.sections.items)
    ++ (header_bytes (place_of segments) segments ++ ys))
begins parts segments are =
    let items = parts.segments.items in
    let sections = parts.sections.items in
    let place = contents_place items in
    let table = table_place (segments_end parts) sections in
    let head = writer.elf_header parts.entry table (length items) (header_count sections) in
    let contents = writer.contents place items in
    let rest = writer.section_table (segments_end parts) items sections in
    let headers : writer.program_header_table place items ≡ header_bytes (place_of segments) segments =
    same_bytes place items ∙ ap (header_bytes place) are ∙ ap (λ at. header_bytes at segments) (same_place items segments are) in
    let count : length items ≡ length segments = sym (length-map items part_segment) ∙ ap (λ ss. length ss) are in (
      contents ++ rest,
      append_assoc (head ++ writer.program_header_table place items) contents rest
          ∙ append_assoc head (writer.program_header_table place items) (contents ++ rest)
          ∙ (λ i. writer.elf_header parts.entry table (count i) (header_count sections) ++ (headers i ++ (contents ++ rest))),
    )

-- the bytes of its segments have an end, behind which its section header table stands
pub segments_end_is : (parts : Parts) (segments : List Content) → map part_segment parts.segments.items ≡ segments
    → segments_end parts ≡ end_of (place_of segments) segments
segments_end_is parts segments are =
    same_end (contents_place parts.segments.items) parts.segments.items ∙ ap (end_of (contents_place parts.segments.items)) are
    ∙ ap (λ at. end_of at segments) (same_place parts.segments.items segments are)

pub ends : (parts : Parts) (segments : List Content) (sections : List Sec) → map part_segment parts.segments.items ≡ segments → parts.sections.items ≡ sections
    → length (writer.elf_file parts) ≡ table_end (end_of (place_of segments) segments) sections
ends parts segments sections are these =
    length-elf_file parts ∙ ap (λ l. table_end (segments_end parts) l) these
    ∙ ap (λ at. table_end at sections) (segments_end_is parts segments are)

-- the section header table: a header of zeros, and those of the sections
pub table_stands : (parts : Parts) (s : Sec) (sections : List Sec) → parts.sections.items ≡ s ∷ sections
    → drop (aligned (segments_end parts)) (writer.elf_file parts)
    ≡ replicate 40 0 ++ writer.section_header_table (contents_place parts.segments.items) parts.segments.items (s ∷ sections)
table_stands parts s sections these =
    let items = parts.segments.items in
    let place = contents_place items in
    let end = segments_end parts in
    let head = writer.elf_header parts.entry (table_place end parts.sections.items) (length items) (header_count parts.sections.items) in
    let front = (head ++ writer.program_header_table place items) ++ writer.contents place items in
    let zeros : List ℕ = replicate 40 0 in
    let headers = writer.section_header_table place items (s ∷ sections) in
    let pad = writer.padding end in
    let size : length (front ++ pad) ≡ aligned end =
    omega (
      arith,
      length-append front pad,
      length-append (head ++ writer.program_header_table place items) (writer.contents place items),
      length-append head (writer.program_header_table place items),
      length-elf_header parts.entry (table_place end parts.sections.items) (length items) (header_count parts.sections.items),
      length-program_headers place items,
      length-contents place items,
      length-padding end,
    ) in
    ap (λ l. drop (aligned end) (front ++ writer.section_table end items l)) these
    ∙ ap (λ l. drop (aligned end) l) (ap (λ l. front ++ l) (append_assoc pad zeros headers) ∙ sym (append_assoc front pad (zeros ++ headers)))
    ∙ drop_at (front ++ pad) (zeros ++ headers) (aligned end) size
