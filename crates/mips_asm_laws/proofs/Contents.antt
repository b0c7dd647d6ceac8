-- What is read of a written file.
use Rattle.std.proofs.Common.{◌≡◌, ℕ, ◌+◌, ◌-◌, ◌<◌, ◌≤◌, ◌^◌, nat_lt, List, [], ◌∷◌, length, take, drop, map, slice_index, slice_range, refl, ap, ◌∙◌, inl, inr, arith}
use Rattle.std.specs.List.{All}
use Rattle.std.proofs.lemmas.Bool.{cases_Bool}
use Rattle.std.proofs.lemmas.List.{ext_get_or, get_or-take, get_or-drop, length-take-le, length-drop}
use Rattle.run_definition.specs.declared.order.Order.TheVariants.{Big}
use Rattle.nv_words.proofs.LaneLemmas.{word_of_lanes}
use Rattle.elf_definition.specs.Header.{header_of, order_of}
use Rattle.elf_definition.specs.Segments.{live}
use Rattle.elf_definition.specs.declared.part.Part.{Part}
use Rattle.elf_definition.specs.declared.parts.Parts.{Parts}
use Rattle.elf_definition.specs.FilePlaces.{aligned, part_end, contents_place, contents_end, segments_end}
use Rattle.elf_definition.specs.File.{elf_file}
use Rattle.elf_writer.specs.Limits.{IsWritable}
use Rattle.elf_writer.specs.ReadBack.{part_segments, HasWords, HoldsParts}
use Rattle.elf_writer.proofs.PlaceLemmas.{le_contents_end}
use Rattle.elf_writer.proofs.LengthLemmas.{length-elf_file, length-section_table}
use Rattle.elf_writer.proofs.ReadBackLemmas.{reads_back, parts_held}
use Rattle.elf_definition.specs.Parts.{part_segment}
use Rattle.mips_asm_laws.specs.Reading.{contents_in, with_memory}

-- bytes that a file holds at a place
bytes_read : (file bytes : List ℕ) (at : ℕ) → at + length bytes ≤ length file
    → ((k : ℕ) → k < length bytes → slice_index file (at + k) ≡ slice_index bytes k) → slice_range file at (at + length bytes) ≡ bytes
bytes_read file bytes at inside each =
    let n = at + length bytes - at in
    let same : n ≡ length bytes = omega arith in
    let room : n ≤ length (drop at file) = omega (arith, same, length-drop at file, inside) in
    let size : length (take n (drop at file)) ≡ length bytes = length-take-le n (drop at file) room ∙ same in
    ext_get_or 0 (take n (drop at file)) bytes size
    (λ k lt. get_or-take n (drop at file) k 0 (omega (arith, lt, size, same)) ∙ get_or-drop at file k 0 ∙ each k (omega (arith, lt, size)))

segments_read : (file : List ℕ) (at : ℕ) (parts : List Part) → contents_end at parts ≤ length file → HoldsParts file at parts
    → contents_in file (part_segments at parts) ≡ with_memory (map part_segment parts)
unfolding part_segments HoldsParts
segments_read file at [] inside held = refl
segments_read file at (s ∷ parts) inside held =
    let rest = segments_read file (part_end at s) parts inside held.1 in
    let bytes = bytes_read file s.bytes.items (aligned at) (omega (arith, le_contents_end (part_end at s) parts, inside)) held.0 in
    elim (cases_Bool (nat_lt 0 s.mem)) [
      | inl on ↦ rw on (λ i. record { address = s.vaddr; flags = s.flags; memory = s.mem; contents = bytes i } ∷ rest i)
      | inr off ↦ rw off rest
    ]

-- the live segments of a written file are the parts that have memory, with their bytes
pub parts_read : (parts : Parts) → IsWritable parts → All HasWords parts.segments.items
    → contents_in (elf_file parts) (live (elf_file parts)) ≡ with_memory (map part_segment parts.segments.items)
parts_read parts writable words =
    let segments = parts.segments.items in
    ap (contents_in (elf_file parts)) (reads_back parts writable words)
    ∙ segments_read (elf_file parts) (contents_place segments) segments
    (omega (arith, length-elf_file parts, length-section_table (segments_end parts) segments parts.sections.items)) (parts_held parts)

-- its numbers are big-endian, and its entry is the one that it was written with
pub order_read : (parts : Parts) → order_of (elf_file parts) ≡ Big
unfolding order_of
order_read parts = refl

pub entry_read : (parts : Parts) → parts.entry < 2 ^ 32 → (header_of (elf_file parts)).e_entry ≡ parts.entry
unfolding header_of order_of
entry_read parts small = word_of_lanes parts.entry small
