-- The parts of a program are few and short enough to be written.
use Rattle.std.proofs.Common.{◌≡◌, ℕ, ◌+◌, ◌≤◌, ◌++◌, List, [], ◌∷◌, map, length, arith, refl, ap, ◌∙◌}
use Rattle.elf_definition.specs.declared.part.Part.{Part}
use Rattle.elf_definition.specs.declared.parts.Parts.{Parts}
use Rattle.elf_writer.specs.Limits.{IsWritable}
use Rattle.elf_definition.specs.FilePlaces.{contents_end, contents_place, part_end}
use Rattle.elf_definition.specs.Parts.{PartSegment, part_segment}
use Rattle.mips_asm.specs.File.{data_segments, segments_of, whole_segment}

-- the bytes of segments, with room to a multiple of 4
abbrev pub room : List PartSegment → ℕ
room [] = 0
room (s ∷ segments) = 3 + length s.contents + room segments

short_contents : (at : ℕ) (parts : List Part) → contents_end at parts ≤ at + room (map part_segment parts)
short_contents at [] = omega arith
short_contents at (s ∷ parts) = omega (arith, short_contents (part_end at s) parts)

short_data : (bytes : List ℕ) → room (data_segments bytes) ≤ 3 + length bytes
short_data [] = omega arith
short_data (b ∷ bytes) = omega arith

few_data : (bytes : List ℕ) → length (data_segments bytes) ≤ 1
few_data [] = omega arith
few_data (b ∷ bytes) = omega arith

same_count : (parts : List Part) → length (map part_segment parts) ≡ length parts
same_count [] = refl
same_count (s ∷ parts) = omega (arith, same_count parts)

few_parts : (parts : List Part) (text data_bytes : List ℕ) → map part_segment parts ≡ segments_of text data_bytes
    → (1 ≤ length parts) × (length parts ≤ 2)
few_parts parts text data_bytes h =
    let n : length (map part_segment parts) ≡ 1 + length (data_segments data_bytes) = ap (λ xs. length xs) h ∙ omega arith in
    (omega (arith, n, same_count parts), omega (arith, n, same_count parts, few_data data_bytes))

short_parts : (parts : List Part) (text data_bytes : List ℕ) → map part_segment parts ≡ segments_of text data_bytes
    → length text ≤ 4194304 → length data_bytes ≤ 16777216 → contents_end (contents_place parts) parts ≤ 67108864
short_parts parts text data_bytes h a b =
    omega (arith, short_contents (contents_place parts) parts, ap (λ xs. room xs) h, short_data data_bytes, (few_parts parts text data_bytes h).1, a, b)

pub writable : (parts : Parts) (text data_bytes : List ℕ) → map part_segment parts.segments.items ≡ segments_of text data_bytes
    → parts.sections.items ≡ [] → length text ≤ 4194304 → length data_bytes ≤ 16777216 → IsWritable parts
writable parts text data_bytes h none a b =
    let few = few_parts parts.segments.items text data_bytes h in
    let short = short_parts parts.segments.items text data_bytes h a b in
    (few.0, omega (arith, few.1), rw none (omega arith), rw none short)

-- the text's part, and that of the data where there is any
pub pushed_parts : (first pushed parts : List Part) (part : Part) (text data_bytes : List ℕ) → first ≡ [] → pushed ≡ first ++ part ∷ []
    → map part_segment parts ≡ map part_segment pushed ++ data_segments data_bytes → part_segment part ≡ whole_segment 0x00400000 5 text
    → map part_segment parts ≡ segments_of text data_bytes
pushed_parts first pushed parts part text data_bytes none one more is =
    more ∙ ap (λ xs. map part_segment xs ++ data_segments data_bytes) (one ∙ ap (λ xs. xs ++ part ∷ []) none)
    ∙ ap (λ s. s ∷ data_segments data_bytes) is
