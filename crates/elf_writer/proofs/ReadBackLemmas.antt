-- The program headers of a written file, read.
use Rattle.std.proofs.Common.{◌≡◌, ℕ, suc, ◌+◌, ◌-◌, ◌*◌, ◌/◌, ◌%◌, ◌^◌, ◌<◌, ◌≤◌, nat_lt, List, [], ◌∷◌, ◌++◌, length, get_or, map, filter, refl, sym, ap, ◌∙◌, inl, inr, arith, length-append}
use Rattle.std.specs.List.{All, range_with_len}
use Rattle.std.proofs.lemmas.List.{get_or-append_right, append_assoc}
use Rattle.std.proofs.lemmas.Bool.{cases_Bool}
use Rattle.run_definition.specs.Words.{word_of_bytes, word_of_list}
use Rattle.run_definition.specs.declared.order.Order.{Order}
use Rattle.run_definition.specs.declared.order.Order.TheVariants.{Big}
use Rattle.nv_words.proofs.LaneLemmas.{word_of_lanes}
use Rattle.elf_definition.specs.declared.program_header.ProgramHeader.{ProgramHeader}
use Rattle.elf_definition.specs.declared.segment.Segment.{Segment}
use Rattle.elf_definition.specs.Header as read
use Rattle.elf_definition.specs.Segments.{program_header as header_at, program_headers as headers_of, live, is_live}
use Rattle.elf_definition.specs.declared.part.Part.{Part}
use Rattle.elf_definition.specs.declared.parts.Parts.{Parts}
use Rattle.elf_definition.specs.declared.sec.Sec.{Sec}
use Rattle.elf_definition.specs.FilePlaces.{aligned, part_end, contents_place, contents_end, table_end, segments_end, table_place, header_count}
use Rattle.elf_definition.specs.File.{elf_header, program_header_bytes, program_header_table, padding, contents, section_table, elf_file}
use Rattle.elf_writer.specs.ReadBack.{segment_of, part_segments, HasWords, HoldsParts}
use Rattle.elf_writer.specs.Limits.{IsWritable}
use Rattle.elf_writer.proofs.PlaceLemmas.{le_contents_end}
use Rattle.elf_writer.proofs.LengthLemmas.{length-padding, length-program_headers, length-elf_header}
use Rattle.std.proofs.Math.ListN.{get_or-append}

word_in : (xs ys : List ℕ) (n k : ℕ) → length xs ≡ n → word_of_list Big (xs ++ ys) (n + k) ≡ word_of_list Big ys k
word_in xs ys n k size = four (at 0) (at 1) (at 2) (at 3)
  where
    at : (i : ℕ) → get_or (xs ++ ys) (n + k + i) 0 ≡ get_or ys (k + i) 0
    at i = get_or-append_right xs ys n (n + k + i) 0 size (omega arith) ∙ ap (λ j. get_or ys j 0) (let e : n + k + i - n ≡ k + i = omega arith in e)

    four : get_or (xs ++ ys) (n + k + 0) 0 ≡ get_or ys (k + 0) 0 → get_or (xs ++ ys) (n + k + 1) 0 ≡ get_or ys (k + 1) 0
        → get_or (xs ++ ys) (n + k + 2) 0 ≡ get_or ys (k + 2) 0 → get_or (xs ++ ys) (n + k + 3) 0 ≡ get_or ys (k + 3) 0
        → word_of_bytes (get_or (xs ++ ys) (n + k) 0) (get_or (xs ++ ys) (n + k + 1) 0) (get_or (xs ++ ys) (n + k + 2) 0) (get_or (xs ++ ys) (n + k + 3) 0)
        ≡ word_of_bytes (get_or ys k 0) (get_or ys (k + 1) 0) (get_or ys (k + 2) 0) (get_or ys (k + 3) 0)
    four a b c d =
        let first : get_or (xs ++ ys) (n + k) 0 ≡ get_or ys k 0 = get_or-append_right xs ys n (n + k) 0 size (omega arith) ∙ ap (λ j. get_or ys j 0) (let e : n + k - n ≡ k = omega arith in e) in
        cc

-- the header of a part, read at its place
header_read : (xs ys : List ℕ) (n offset : ℕ) (s : Part) → length xs ≡ n → offset < 2 ^ 32 → length s.bytes.items < 2 ^ 32 → HasWords s
    → (word_of_list Big (xs ++ (program_header_bytes offset s ++ ys)) n ≡ 1) × (word_of_list Big (xs ++ (program_header_bytes offset s ++ ys)) (n + 4) ≡ offset)
    × (word_of_list Big (xs ++ (program_header_bytes offset s ++ ys)) (n + 8) ≡ s.vaddr) × (word_of_list Big (xs ++ (program_header_bytes offset s ++ ys)) (n + 16) ≡ length s.bytes.items)
    × (word_of_list Big (xs ++ (program_header_bytes offset s ++ ys)) (n + 20) ≡ s.mem) × (word_of_list Big (xs ++ (program_header_bytes offset s ++ ys)) (n + 24) ≡ s.flags)
header_read xs ys n offset s size small short words =
    let rest = program_header_bytes offset s ++ ys in (
      ap (λ k. word_of_list Big (xs ++ rest) k) (let e : n ≡ n + 0 = omega arith in e) ∙ word_in xs rest n 0 size ∙ word_of_lanes 1 (omega arith),
      word_in xs rest n 4 size ∙ word_of_lanes offset small,
      word_in xs rest n 8 size ∙ word_of_lanes s.vaddr words.0,
      word_in xs rest n 16 size ∙ word_of_lanes (length s.bytes.items) short,
      word_in xs rest n 20 size ∙ word_of_lanes s.mem words.1,
      word_in xs rest n 24 size ∙ word_of_lanes s.flags words.2,
    )

-- the program headers of the parts, as they are read
pub part_headers : ℕ → List Part → List ProgramHeader
part_headers at [] = []
part_headers at (s ∷ parts) = record { p_type = 1; segment = segment_of (aligned at) s } ∷ part_headers (part_end at s) parts

same_header : (t o v f m l t' o' v' f' m' l' : ℕ) → t ≡ t' → o ≡ o' → v ≡ v' → f ≡ f' → m ≡ m' → l ≡ l'
    → ◌≡◌ {A = ProgramHeader} (record { p_type = t; segment = record { offset = o; vaddr = v; filesz = f; memsz = m; flags = l } })
    (record { p_type = t'; segment = record { offset = o'; vaddr = v'; filesz = f'; memsz = m'; flags = l' } })
same_header t o v f m l t' o' v' f' m' l' a b c d e g = λ i. record { p_type = a i; segment = record { offset = b i; vaddr = c i; filesz = d i; memsz = e i; flags = g i } }

cons_same : {X : Type 0} (x y : X) (xs ys : List X) → x ≡ y → xs ≡ ys → x ∷ xs ≡ y ∷ ys
cons_same x y xs ys p q = λ i. p i ∷ q i

one_read : (file xs ys : List ℕ) (j offset : ℕ) (s : Part) → file ≡ xs ++ (program_header_bytes offset s ++ ys) → length xs ≡ 52 + 32 * j → read.order_of file ≡ Big
    → (read.header_of file).e_phoff ≡ 52
    → offset < 2 ^ 32 → length s.bytes.items < 2 ^ 32 → HasWords s → header_at file j ≡ record { p_type = 1; segment = segment_of offset s }
unfolding header_at
one_read file xs ys j offset s is size order place small short words =
    let n = 52 + 32 * j in
    let from : (read.header_of file).e_phoff + 32 * j ≡ n = ap (λ p. p + 32 * j) place in
    let facts = header_read xs ys n offset s size small short words in
    let big = λ (p : ℕ). ap (λ (o : Order). word_of_list o file p) order in
    let at = λ (k : ℕ). big ((read.header_of file).e_phoff + 32 * j + k) ∙ ap (λ p. word_of_list Big file (p + k)) from ∙ ap (λ f. word_of_list Big f (n + k)) is in
    same_header _ _ _ _ _ _ 1 offset s.vaddr (length s.bytes.items) s.mem s.flags
    (big ((read.header_of file).e_phoff + 32 * j) ∙ ap (word_of_list Big file) from ∙ ap (λ f. word_of_list Big f n) is ∙ facts.0) (at 4 ∙ facts.1) (at 8 ∙ facts.2) (at 16 ∙ facts.3) (at 20 ∙ facts.4) (at 24 ∙ facts.5)

all_read : (file xs rest : List ℕ) (at j : ℕ) (parts : List Part) → file ≡ xs ++ (program_header_table at parts ++ rest) → length xs ≡ 52 + 32 * j
    → read.order_of file ≡ Big → (read.header_of file).e_phoff ≡ 52 → All HasWords parts → contents_end at parts ≤ 67108864
    → map (header_at file) (range_with_len j (length parts)) ≡ part_headers at parts
unfolding part_headers
all_read file xs rest at j [] is size order place words short = refl
all_read file xs rest at j (s ∷ parts) is size order place words short =
    let head = program_header_bytes (aligned at) s in
    let more = program_header_table (part_end at s) parts in
    let within = le_contents_end (part_end at s) parts in
    let apart : xs ++ ((head ++ more) ++ rest) ≡ xs ++ (head ++ (more ++ rest)) = ap (λ ys. xs ++ ys) (append_assoc head more rest) in
    let front : file ≡ xs ++ (head ++ (more ++ rest)) = is ∙ apart in
    let next : file ≡ (xs ++ head) ++ (more ++ rest) = front ∙ sym (append_assoc xs head (more ++ rest)) in
    cons_same _ _ _ _
    (one_read file xs (more ++ rest) j (aligned at) s front size order place (omega (arith, within, short)) (omega (arith, within, short)) (words 0 s (omega arith)))
    (all_read file (xs ++ head) rest (part_end at s) (j + 1) parts next (omega (arith, length-append {A = ℕ}, size)) order place (λ k d lt. words (suc k) d (omega (arith, lt))) short)

lives : (at : ℕ) (parts : List Part) → map (λ (h : ProgramHeader). h.segment) (filter is_live (part_headers at parts)) ≡ part_segments at parts
unfolding part_segments part_headers
lives at [] = refl
lives at (s ∷ parts) =
    elim (cases_Bool (nat_lt 0 s.mem)) [
      | inl on ↦ rw on (ap (λ ss. segment_of (aligned at) s ∷ ss) (lives (part_end at s) parts))
      | inr off ↦ rw off (lives (part_end at s) parts)
    ]

half_of : (n : ℕ) → n < 65536 → n / 2 ^ 8 % 2 ^ 8 * 2 ^ 8 + n % 2 ^ 8 ≡ n
half_of n lt = omega (arith, lt)

order_is : (entry table segments headers : ℕ) (ys : List ℕ) → read.order_of (elf_header entry table segments headers ++ ys) ≡ Big
unfolding read.order_of
order_is entry table segments headers ys = refl

pub table_place_is : (entry table segments headers : ℕ) (ys : List ℕ) → (read.header_of (elf_header entry table segments headers ++ ys)).e_phoff ≡ 52
unfolding read.header_of read.order_of
table_place_is entry table segments headers ys = refl

pub count_is : (entry table segments headers : ℕ) (ys : List ℕ) → segments < 65536 → (read.header_of (elf_header entry table segments headers ++ ys)).e_phnum ≡ segments
unfolding read.header_of read.order_of
count_is entry table segments headers ys few = half_of segments few

table_behind : (at : ℕ) (sections : List Sec) → at ≤ table_end at sections
table_behind at [] = omega arith
table_behind at (s ∷ sections) = omega arith

counted : (file : List ℕ) (n : ℕ) (hs : List ProgramHeader) → (read.header_of file).e_phnum ≡ n → map (header_at file) (range_with_len 0 n) ≡ hs → headers_of file ≡ hs
unfolding headers_of
counted file n hs count all = ap (λ m. map (header_at file) (range_with_len 0 m)) count ∙ all

-- the program headers of a written file are those of its parts
pub headers_read : (parts : Parts) → IsWritable parts → All HasWords parts.segments.items
    → headers_of (elf_file parts) ≡ part_headers (contents_place parts.segments.items) parts.segments.items
headers_read parts writable words =
    let segments = parts.segments.items in
    let sections = parts.sections.items in
    let place = contents_place segments in
    let table = table_place (segments_end parts) sections in
    let head = elf_header parts.entry table (length segments) (header_count sections) in
    let rest = contents place segments ++ section_table (segments_end parts) segments sections in
    let shape : elf_file parts ≡ head ++ (program_header_table place segments ++ rest) =
    append_assoc (head ++ program_header_table place segments) (contents place segments) (section_table (segments_end parts) segments sections)
    ∙ append_assoc head (program_header_table place segments) rest in
    let few : length segments < 65536 = omega (arith, writable.1) in
    let short : contents_end place segments ≤ 67108864 = omega (arith, table_behind (segments_end parts) sections, writable.3) in
    let order = ap read.order_of shape ∙ order_is parts.entry table (length segments) (header_count sections) (program_header_table place segments ++ rest) in
    let at = ap (λ f. (read.header_of f).e_phoff) shape ∙ table_place_is parts.entry table (length segments) (header_count sections) (program_header_table place segments ++ rest) in
    let count = ap (λ f. (read.header_of f).e_phnum) shape ∙ count_is parts.entry table (length segments) (header_count sections) (program_header_table place segments ++ rest) few in
    counted (elf_file parts) (length segments) (part_headers place segments) count (all_read (elf_file parts) head rest place 0 segments shape refl order at words short)

live_are : (file : List ℕ) (hs : List ProgramHeader) (ss : List Segment) → headers_of file ≡ hs → map (λ (h : ProgramHeader). h.segment) (filter is_live hs) ≡ ss → live file ≡ ss
unfolding live
live_are file hs ss are same = ap (λ xs. map (λ (h : ProgramHeader). h.segment) (filter is_live xs)) are ∙ same

-- the live segments of a written file are the parts with memory
pub reads_back : (parts : Parts) → IsWritable parts → All HasWords parts.segments.items
    → live (elf_file parts) ≡ part_segments (contents_place parts.segments.items) parts.segments.items
reads_back parts writable words =
    let place = contents_place parts.segments.items in
    live_are (elf_file parts) (part_headers place parts.segments.items) (part_segments place parts.segments.items) (headers_read parts writable words) (lives place parts.segments.items)

holds : (file xs rest : List ℕ) (at : ℕ) (parts : List Part) → file ≡ xs ++ (contents at parts ++ rest) → length xs ≡ at → HoldsParts file at parts
unfolding HoldsParts
holds file xs rest at [] is size = tt
holds file xs rest at (s ∷ parts) is size =
    let pad = padding at in
    let bytes = s.bytes.items in
    let more = contents (part_end at s) parts in
    let first : file ≡ xs ++ ((pad ++ bytes) ++ (more ++ rest)) = is ∙ ap (λ ys. xs ++ ys) (append_assoc (pad ++ bytes) more rest) in
    let second : file ≡ xs ++ (pad ++ (bytes ++ (more ++ rest))) = first ∙ ap (λ ys. xs ++ ys) (append_assoc pad bytes (more ++ rest)) in
    let front : file ≡ (xs ++ pad) ++ (bytes ++ (more ++ rest)) = second ∙ sym (append_assoc xs pad (bytes ++ (more ++ rest))) in
    let next : file ≡ ((xs ++ pad) ++ bytes) ++ (more ++ rest) = front ∙ sym (append_assoc (xs ++ pad) bytes (more ++ rest)) in
    let place : length (xs ++ pad) ≡ aligned at = omega (arith, length-append {A = ℕ}, length-padding at, size) in (
      (λ k lt.
          ap (λ f. get_or f (aligned at + k) 0) front
          ∙ get_or-append_right (xs ++ pad) (bytes ++ (more ++ rest)) (aligned at) (aligned at + k) 0 place (omega arith)
          ∙ ap (λ j. get_or (bytes ++ (more ++ rest)) j 0) (let e : aligned at + k - aligned at ≡ k = omega arith in e)
          ∙ get_or-append bytes (more ++ rest) 0 k lt),
      holds file ((xs ++ pad) ++ bytes) rest (part_end at s) parts next (omega (arith, length-append {A = ℕ}, place)),
    )

-- a written file holds the parts' bytes at their places
pub parts_held : (parts : Parts) → HoldsParts (elf_file parts) (contents_place parts.segments.items) parts.segments.items
parts_held parts =
    let segments = parts.segments.items in
    let sections = parts.sections.items in
    let place = contents_place segments in
    let head = elf_header parts.entry (table_place (segments_end parts) sections) (length segments) (header_count sections) in
    holds (elf_file parts) (head ++ program_header_table place segments) (section_table (segments_end parts) segments sections) place segments
    (append_assoc (head ++ program_header_table place segments) (contents place segments) (section_table (segments_end parts) segments sections))
    (omega (arith, length-append {A = ℕ}, length-program_headers place segments, length-elf_header parts.entry (table_place (segments_end parts) sections) (length segments) (header_count sections)))
