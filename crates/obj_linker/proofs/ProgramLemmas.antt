-- The parts of a program are few and short enough to be written.
use Rattle.std.proofs.Common.{◌≡◌, ℕ, ◌+◌, ◌-◌, ◌≤◌, Bool, true, false, cond, nat_lt, List, [], ◌∷◌, ◌++◌, map, length, drop, length-take, length-drop, arith, refl, sym, ap, ◌∙◌, subst}
use Rattle.elf_definition.specs.declared.part.Part.{Part}
use Rattle.elf_definition.specs.declared.parts.Parts.{Parts}
use Rattle.elf_definition.specs.declared.sec.Sec.{Sec}
use Rattle.elf_writer.specs.Limits.{IsWritable}
use Rattle.elf_definition.specs.FilePlaces.{contents_end, contents_place, part_end, table_end}
use Rattle.obj_linker.specs.Layout.{data_start, text_start}
use Rattle.elf_definition.specs.Parts.{PartSegment, part_segment}
use Rattle.obj_linker.specs.Program.{IsLinkedParts, code_section, linked_data, text_segment}

-- the bytes of segments, with room to a multiple of 4
abbrev pub room : List PartSegment → ℕ
room [] = 0
room (s ∷ segments) = 3 + length s.contents + room segments

short_contents : (at : ℕ) (parts : List Part) → contents_end at parts ≤ at + room (map part_segment parts)
short_contents at [] = omega arith
short_contents at (s ∷ parts) = omega (arith, short_contents (part_end at s) parts)

same_count : (parts : List Part) → length (map part_segment parts) ≡ length parts
same_count [] = refl
same_count (s ∷ parts) = omega (arith, same_count parts)

data_by : (t : Bool) (s : PartSegment) → length (cond t (s ∷ []) []) ≤ 1
data_by true s = omega arith
data_by false s = omega arith

few_data : (image : List ℕ) (text zeros : ℕ) → length (linked_data image text zeros) ≤ 1
few_data image text zeros = data_by (nat_lt data_start zeros) _

room_by : (t : Bool) (s : PartSegment) → room (cond t (s ∷ []) []) ≤ 3 + length s.contents
room_by true s = omega arith
room_by false s = omega arith

-- the text and the data are the image
short_room : (image : List ℕ) (text zeros : ℕ) → room (text_segment image text ∷ linked_data image text zeros) ≤ 6 + length image
short_room image text zeros =
    let size = text - text_start in
    let rest : room (linked_data image text zeros) ≤ 3 + length (drop size image) = room_by (nat_lt data_start zeros) _ in
    omega (arith, rest, length-take size image, length-drop size image)

few_parts : (parts : List Part) (image : List ℕ) (text zeros : ℕ) → map part_segment parts ≡ text_segment image text ∷ linked_data image text zeros
    → (1 ≤ length parts) × (length parts ≤ 2)
few_parts parts image text zeros h =
    let n : length (map part_segment parts) ≡ 1 + length (linked_data image text zeros) = ap (λ xs. length xs) h ∙ omega arith in
    (omega (arith, n, same_count parts), omega (arith, n, same_count parts, few_data image text zeros))

table_by : (at : ℕ) (s : Sec) → table_end at (s ∷ []) ≤ at + 83
table_by at s = omega arith

pub writable : (entry code text zeros : ℕ) (image : List ℕ) (parts : Parts) → length image ≤ 33554432
    → IsLinkedParts entry image code text zeros parts → IsWritable parts
writable entry code text zeros image parts short is =
    let segments = parts.segments.items in
    let few = few_parts segments image text zeros is.segments in
    let place = contents_place segments in
    let rooms : room (map part_segment segments) ≤ 6 + length image =
    subst (λ l. room l ≤ 6 + length image) (sym is.segments) (short_room image text zeros) in
    let end : contents_end place segments ≤ 33555000 = omega (arith, short_contents place segments, rooms, few.1, short) in
    let table : table_end (contents_end place segments) parts.sections.items ≤ contents_end place segments + 83 =
    subst (λ l. table_end (contents_end place segments) l ≤ contents_end place segments + 83) (sym is.sections) (table_by (contents_end place segments) (code_section code)) in
    let one : length parts.sections.items ≡ 1 = ap (λ l. length l) is.sections in
    (few.0, omega (arith, few.1), omega (arith, one), omega (arith, end, table))

-- the parts that were pushed
pub pushed_program : (entry code text zeros : ℕ) (image : List ℕ) (first pushed parts : List Part) (part : Part) (none sections : List Sec) (p : Parts)
    → first ≡ [] → pushed ≡ first ++ part ∷ [] → part_segment part ≡ text_segment image text
    → map part_segment parts ≡ map part_segment pushed ++ linked_data image text zeros
    → none ≡ [] → sections ≡ none ++ code_section code ∷ []
    → p.entry ≡ entry → p.segments.items ≡ parts → p.sections.items ≡ sections
    → IsLinkedParts entry image code text zeros p
pushed_program entry code text zeros image first pushed parts part none sections p empty one is more nothing coded at these those = record {
  entry = at;
  segments =
      ap (λ l. map part_segment l) these ∙ more ∙ ap (λ l. map part_segment l ++ linked_data image text zeros) (one ∙ ap (λ l. l ++ part ∷ []) empty)
      ∙ ap (λ s. s ∷ linked_data image text zeros) is;
  sections = those ∙ coded ∙ ap (λ l. l ++ code_section code ∷ []) nothing;
}
