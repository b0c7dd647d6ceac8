-- The file of a program.
use Rattle.std.proofs.Common.{◌≡◌, ℕ, ◌+◌, ◌*◌, ◌<◌, ◌≤◌, ◌^◌, true, List, [], ◌∷◌, ◌++◌, length, map, None, refl, sym, ap, ◌∙◌, subst, arith}
use Rattle.std.specs.List.{All}
use Rattle.std.specs.Option.{option_or}
use Rattle.std.proofs.lemmas.List.{append_assoc, get_or-map, length-map}
use Rattle.std.proofs.lemmas.List.Elements.{All-cons, All-nil}
use Rattle.nv_words.proofs.LaneLemmas.{word_of_lanes}
use Rattle.elf_definition.specs.declared.range.Range.{Range}
use Rattle.elf_definition.specs.Area.{code_ranges}
use Rattle.elf_definition.specs.Check.{fails}
use Rattle.elf_definition.specs.Header.{header_of, order_of}
use Rattle.elf_definition.specs.Segments.{program_headers, program_header, live, overlap_from, segment_fault}
use Rattle.elf_definition.specs.Fault.{elf_fault}
use Rattle.elf_definition.specs.declared.part.Part.{Part}
use Rattle.elf_definition.specs.FileFields.{words}
use Rattle.elf_definition.specs.FilePlaces.{aligned, part_end, contents_place, contents_end, table_end, segments_end, table_place, header_count}
use Rattle.elf_definition.specs.File as writer
use Rattle.elf_writer.specs.ReadBack.{HasWords}
use Rattle.elf_writer.proofs.LengthLemmas.{length-elf_file}
use Rattle.elf_definition.specs.Parts.{PartSegment as Content, part_segment}
use Rattle.mips_asm.specs.File.{whole_segment, data_segments, segments_of, IsFileOf}
use Rattle.mips_asm.proofs.ProgramLemmas.{writable}
use Rattle.mips_asm_laws.specs.Reading.{contents_in, with_memory}
use Rattle.mips_asm_laws.proofs.Contents.{parts_read}
use Rattle.mips_asm_laws.proofs.Written.{begins, end_of, ends, header_bytes, place_of}
use Rattle.mips_asm_laws.proofs.Checks.{code_of, code_left, area_of, live_of, left_fault, headers_pass, whole_passes, Passes, apart_in_order}
use Rattle.mips_asm_laws.proofs.Areas.{text_at, data_at, text_live, both_live, text_range, text_area, both_area, no_text_area, data_area}

-- ---- its begin and its end
first_bytes : (text bytes file : List ℕ) → IsFileOf text bytes file
    → (ys : List ℕ) × (file ≡ writer.elf_header 0x00400000 0 (length (segments_of text bytes)) 0 ++ (header_bytes (place_of (segments_of text bytes)) (segments_of text bytes) ++ ys))
first_bytes text bytes file is =
    let segments = segments_of text bytes in
    let shape = begins is.0 segments is.1.1 in (
      shape.0,
      is.2 ∙ shape.1 ∙ (λ i. writer.elf_header (is.1.0 i) (table_place (segments_end is.0) (is.1.2 i)) (length segments) (header_count (is.1.2 i)) ++ (header_bytes (place_of segments) segments ++ shape.0)),
    )

pub file_size : (text bytes file : List ℕ) → IsFileOf text bytes file → length file ≡ end_of (place_of (segments_of text bytes)) (segments_of text bytes)
file_size text bytes file is = ap (λ f. length f) is.2 ∙ ends is.0 (segments_of text bytes) [] is.1.1 is.1.2

-- ---- its program headers
text_header : (text ys : List ℕ) → length text < 2 ^ 32
    → program_headers (writer.elf_header 0x00400000 0 1 0 ++ (header_bytes 84 (segments_of text []) ++ ys)) ≡ text_at 84 (length text) ∷ []
unfolding program_headers program_header header_of order_of
text_header text ys short = let n = word_of_lanes (length text) short in λ i. text_at 84 (n i) ∷ []

both_headers : (text : List ℕ) (b : ℕ) (bytes ys : List ℕ) → length text ≤ 4194304 → length (b ∷ bytes) ≤ 16777216
    → program_headers (writer.elf_header 0x00400000 0 2 0 ++ (header_bytes 116 (segments_of text (b ∷ bytes)) ++ ys))
    ≡ text_at 116 (length text) ∷ data_at (aligned (116 + length text)) (length (b ∷ bytes)) ∷ []
unfolding program_headers program_header header_of order_of
both_headers text b bytes ys short short' =
    let n = word_of_lanes (length text) (omega (arith, short)) in
    let m = word_of_lanes (length (b ∷ bytes)) (omega (arith, short')) in
    let at = word_of_lanes (aligned (116 + length text)) (omega (arith, short)) in
    λ i. text_at 116 (n i) ∷ data_at (at i) (m i) ∷ []

text_passes : (len at n : ℕ) → n ≤ 4194304 → at + n ≤ len → Passes len (text_at at n)
text_passes len at n short inside = whole_passes len at 0x00400000 5 n inside (omega (arith, short)) refl

data_passes : (len at n : ℕ) → n ≤ 16777216 → at + n ≤ len → Passes len (data_at at n)
data_passes len at n short inside = whole_passes len at 0x10000000 6 n inside (omega (arith, short)) refl

one_passes : (len at n : ℕ) → n ≤ 4194304 → at + n ≤ len → segment_fault len (text_at at n ∷ []) ≡ None
unfolding overlap_from
one_passes len at n short inside =
    headers_pass len (text_at at n ∷ []) (All-cons (Passes len) (text_at at n) [] (text_passes len at n short inside) (All-nil (Passes len))) refl

both_pass : (len at n at' m : ℕ) → n ≤ 4194304 → m ≤ 16777216 → at + n ≤ len → at' + m ≤ len → segment_fault len (text_at at n ∷ data_at at' m ∷ []) ≡ None
both_pass len at n at' m short short' inside inside' =
    headers_pass len (text_at at n ∷ data_at at' m ∷ [])
    (All-cons (Passes len) (text_at at n) (data_at at' m ∷ []) (text_passes len at n short inside)
    (All-cons (Passes len) (data_at at' m) [] (data_passes len at' m short' inside') (All-nil (Passes len))))
    (apart_in_order at 0x00400000 5 n n at' 0x10000000 6 m m (omega (arith, short)))

-- ---- the file
pub one_shape : (text file : List ℕ) → IsFileOf text [] file → length text ≤ 4194304
    → (ys : List ℕ) × (file ≡ writer.elf_header 0x00400000 0 1 0 ++ ys) × (program_headers file ≡ text_at 84 (length text) ∷ [])
one_shape text file is short =
    let shape = first_bytes text [] file is in
    (header_bytes 84 (segments_of text []) ++ shape.0, shape.1, ap program_headers shape.1 ∙ text_header text shape.0 (omega (arith, short)))

both_shape : (text : List ℕ) (b : ℕ) (bytes file : List ℕ) → IsFileOf text (b ∷ bytes) file → length text ≤ 4194304 → length (b ∷ bytes) ≤ 16777216
    → (ys : List ℕ) × (file ≡ writer.elf_header 0x00400000 0 2 0 ++ ys)
    × (program_headers file ≡ text_at 116 (length text) ∷ data_at (aligned (116 + length text)) (length (b ∷ bytes)) ∷ [])
both_shape text b bytes file is short short' =
    let shape = first_bytes text (b ∷ bytes) file is in
    (header_bytes 116 (segments_of text (b ∷ bytes)) ++ shape.0, shape.1, ap program_headers shape.1 ∙ both_headers text b bytes shape.0 short short')

-- what is left is the check of the code area
one_left : (text file : List ℕ) → IsFileOf text [] file → length text ≤ 4194304
    → elf_fault file ≡ option_or (area_of (live_of (text_at 84 (length text) ∷ []))) None
one_left text file is short =
    let shape = one_shape text file is short in
    let size : length file ≡ 84 + length text = file_size text [] file is in
    left_fault file shape.0 0x00400000 1 (text_at 84 (length text) ∷ []) shape.1 (omega arith) (omega arith) (omega (arith, size)) shape.2
    (one_passes (length file) 84 (length text) short (omega (arith, size)))

both_left : (text : List ℕ) (b : ℕ) (bytes file : List ℕ) → IsFileOf text (b ∷ bytes) file → length text ≤ 4194304 → length (b ∷ bytes) ≤ 16777216
    → elf_fault file ≡ option_or (area_of (live_of (text_at 116 (length text) ∷ data_at (aligned (116 + length text)) (length (b ∷ bytes)) ∷ []))) None
both_left text b bytes file is short short' =
    let shape = both_shape text b bytes file is short short' in
    let at = aligned (116 + length text) in
    let size : length file ≡ at + length (b ∷ bytes) = file_size text (b ∷ bytes) file is in
    left_fault file shape.0 0x00400000 2 (text_at 116 (length text) ∷ data_at at (length (b ∷ bytes)) ∷ []) shape.1 (omega arith) (omega arith) (omega (arith, size)) shape.2
    (both_pass (length file) 116 (length text) at (length (b ∷ bytes)) short short' (omega (arith, size)) (omega (arith, size)))

-- the file of a program with a word of text passes every check
pub program_passes : (text bytes file : List ℕ) → IsFileOf text bytes file → length text ≤ 4194304 → length bytes ≤ 16777216 → 4 ≤ length text
    → elf_fault file ≡ None
program_passes text [] file is short short' some =
    one_left text file is short ∙ ap (λ o. option_or o None) (text_area 84 (length text) some)
program_passes text (b ∷ bytes) file is short short' some =
    both_left text b bytes file is short short'
    ∙ ap (λ o. option_or o None) (both_area 116 (length text) (aligned (116 + length text)) (length (b ∷ bytes)) some short (omega arith))

-- that of a program without text has no code
pub empty_program : (bytes file : List ℕ) → IsFileOf [] bytes file → length bytes ≤ 16777216 → elf_fault file ≡ fails 21 true
empty_program [] file is short = one_left [] file is (omega arith) ∙ ap (λ o. option_or o None) (no_text_area 84)
empty_program (b ∷ bytes) file is short =
    both_left [] b bytes file is (omega arith) short
    ∙ ap (λ o. option_or o None) (data_area 116 (aligned 116) (length (b ∷ bytes)) (omega arith))

-- the words of its code are those of its text
pub program_code : (text bytes file : List ℕ) (k : ℕ) → IsFileOf text bytes file → length text ≤ 4194304 → length bytes ≤ 16777216
    → length text ≡ 4 * k → 1 ≤ k → code_ranges file ≡ record { first = 0x00400000; words = k } ∷ []
program_code text [] file k is short short' size some =
    let shape = one_shape text file is short in
    code_left file shape.0 0x00400000 1 (text_at 84 (length text) ∷ []) shape.1 shape.2
    ∙ ap code_of (text_live 84 (length text) (omega (arith, size, some))) ∙ ap (λ (r : Range). r ∷ []) (text_range 84 (length text) k size)
program_code text (b ∷ bytes) file k is short short' size some =
    let shape = both_shape text b bytes file is short short' in
    let at = aligned (116 + length text) in
    code_left file shape.0 0x00400000 2 (text_at 116 (length text) ∷ data_at at (length (b ∷ bytes)) ∷ []) shape.1 shape.2
    ∙ ap code_of (both_live 116 (length text) at (length (b ∷ bytes)) (omega (arith, size, some)) (omega arith)) ∙ ap (λ (r : Range). r ∷ []) (text_range 116 (length text) k size)

-- ---- its segments
abbrev pub IsSmall : Content → Type 0
IsSmall s = (s.address < 2 ^ 32) × (s.memory < 2 ^ 32) × (s.flags < 2 ^ 32)

small : (text bytes : List ℕ) → length text ≤ 4194304 → length bytes ≤ 16777216 → All IsSmall (segments_of text bytes)
small text [] short short' =
    All-cons IsSmall (whole_segment 0x00400000 5 text) [] (omega arith, omega (arith, short), omega arith) (All-nil IsSmall)
small text (b ∷ bytes) short short' =
    All-cons IsSmall (whole_segment 0x00400000 5 text) (data_segments (b ∷ bytes)) (omega arith, omega (arith, short), omega arith)
    (All-cons IsSmall (whole_segment 0x10000000 6 (b ∷ bytes)) [] (omega arith, omega (arith, short'), omega arith) (All-nil IsSmall))

pub have_words : (parts : List Part) (segments : List Content) → map part_segment parts ≡ segments → All IsSmall segments → All HasWords parts
have_words parts segments are all k d lt =
    let known = subst (λ (ss : List Content). All IsSmall ss) (sym are) all in
    subst IsSmall (get_or-map part_segment parts k d (part_segment d) lt) (known k (part_segment d) (omega (arith, lt, length-map parts part_segment)))

pub program_read : (text bytes file : List ℕ) → IsFileOf text bytes file → length text ≤ 4194304 → length bytes ≤ 16777216
    → contents_in file (live file) ≡ with_memory (segments_of text bytes)
program_read text bytes file is short short' =
    let parts = is.0 in
    ap (λ f. contents_in f (live f)) is.2
    ∙ parts_read parts (writable parts text bytes is.1.1 is.1.2 short short') (have_words parts.segments.items (segments_of text bytes) is.1.1 (small text bytes short short'))
    ∙ ap with_memory is.1.1
