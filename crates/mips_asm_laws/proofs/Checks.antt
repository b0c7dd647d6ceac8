-- The checks of a written file.
use Rattle.std.proofs.Common.{◌≡◌, ℕ, ◌+◌, ◌*◌, ◌<◌, ◌≤◌, Bool, true, false, cond, not, ◌&&◌, ◌==◌, nat_lt, if◌then◌else◌, List, [], ◌∷◌, ◌++◌, length, length-append, map, filter, position, Option, Some, None, option_map, refl, ap, ◌∙◌, arith}
use Rattle.std.specs.List.{All, position_from, range_with_len}
use Rattle.std.specs.Option.{option_or}
use Rattle.std.proofs.lemmas.Bool.{and_right, le-ltb, ne_eqb}
use Rattle.std.proofs.lemmas.Bool.Decides.{nat_tests}
use Rattle.std.proofs.lemmas.Iterator.Adapters.{position_from-zero}
use Rattle.std.proofs.lemmas.List.Elements.{All-cons, All-head, All-nil, All-tail}
use Rattle.elf_definition.specs.declared.elf_fault.ElfFault.{ElfFault}
use Rattle.elf_definition.specs.declared.program_header.ProgramHeader.{ProgramHeader}
use Rattle.elf_definition.specs.declared.range.Range.{Range}
use Rattle.elf_definition.specs.declared.segment.Segment.{Segment}
use Rattle.elf_definition.specs.Check.{fails, fails_at, first_fault, has_flag, meet}
use Rattle.elf_definition.specs.Header.{header_of, order_of, identity_fault, program_table_fault, is_program_table_outside}
use Rattle.elf_definition.specs.Segments.{program_headers, live, is_live, is_executable, is_dynamic, is_outside, is_oversized, is_too_high, is_writable_text, overlap, overlap_from, segment_fault}
use Rattle.elf_definition.specs.Sections.{has_sections, section_header, section_headers, is_section_table_outside, section_table_fault, section_fault}
use Rattle.elf_definition.specs.Area.{code_ranges, ranges_of, segment_range, area_fault}
use Rattle.elf_definition.specs.Fault.{elf_fault}
use Rattle.elf_definition.specs.File.{elf_header}
use Rattle.elf_writer.proofs.LengthLemmas.{length-elf_header}
use Rattle.elf_writer.proofs.ReadBackLemmas.{table_place_is, count_is}

-- ---- the header
pub identity_passes : (entry table n headers : ℕ) (ys : List ℕ) → identity_fault (elf_header entry table n headers ++ ys) ≡ None
unfolding identity_fault header_of order_of
identity_passes entry table n headers ys =
    let long : nat_lt (length (elf_header entry table n headers ++ ys)) 52 ≡ false =
    le-ltb (length (elf_header entry table n headers ++ ys)) 52
    (omega (arith, length-append (elf_header entry table n headers) ys, length-elf_header entry table n headers)) in
    λ i. option_or (fails 1 (long i)) None

pub entry_size : (entry table n headers : ℕ) (ys : List ℕ) → (header_of (elf_header entry table n headers ++ ys)).e_phentsize ≡ 32
unfolding header_of order_of
entry_size entry table n headers ys = refl

no_table : (entry n : ℕ) (ys : List ℕ) → (header_of (elf_header entry 0 n 0 ++ ys)).e_shoff ≡ 0
unfolding header_of order_of
no_table entry n ys = refl

pub table_passes : (file : List ℕ) (n : ℕ) → (header_of file).e_phnum ≡ n → (header_of file).e_phoff ≡ 52 → (header_of file).e_phentsize ≡ 32
    → 1 ≤ n → 52 + 32 * n ≤ length file → program_table_fault file ≡ None
unfolding program_table_fault
table_passes file n count place size some room =
    let found : ((header_of file).e_phnum == 0) ≡ false = ne_eqb (header_of file).e_phnum 0 (λ none. omega (arith, none, count, some)) in
    let sized : not ((header_of file).e_phentsize == 32) ≡ false = ap (λ k. not (k == 32)) size in
    let inside : is_program_table_outside file (header_of file) ≡ false =
    le-ltb (length file) ((header_of file).e_phoff + 32 * (header_of file).e_phnum) (omega (arith, count, place, room)) in
    λ i. first_fault (fails 8 (found i) ∷ fails 9 (sized i) ∷ fails 10 (inside i) ∷ [])

-- ---- without sections
no_sections : (file : List ℕ) → (header_of file).e_shoff ≡ 0 → has_sections (header_of file) ≡ false
no_sections file none = ap (λ k. not (k == 0) && not ((header_of file).e_shnum == 0)) none

section_table_passes : (file : List ℕ) → has_sections (header_of file) ≡ false → section_table_fault file ≡ None
unfolding section_table_fault
section_table_passes file none =
    λ i. first_fault (fails 17 (none i && not ((header_of file).e_shentsize == 40)) ∷ fails 18 (none i && is_section_table_outside file (header_of file)) ∷ [])

no_section_headers : (file : List ℕ) → has_sections (header_of file) ≡ false → section_headers file ≡ []
unfolding section_headers
no_section_headers file none = λ i. if none i then map (section_header file) (range_with_len 0 (header_of file).e_shnum) else []

no_section_faults : (segments : List Segment) → section_fault segments [] ≡ None
unfolding section_fault
no_section_faults segments = refl

-- the code is that of the executable segments
abbrev pub code_of : List Segment → List Range
code_of segments = map segment_range (filter is_executable segments)

abbrev pub area_of : List Segment → Option ElfFault
area_of segments = area_fault (code_of segments) segments

abbrev pub live_of : List ProgramHeader → List Segment
live_of headers = map (λ (h : ProgramHeader). h.segment) (filter is_live headers)

pub live_are : (file : List ℕ) (headers : List ProgramHeader) → program_headers file ≡ headers → live file ≡ live_of headers
unfolding live
live_are file headers are = ap live_of are

ranges_are : (file : List ℕ) → has_sections (header_of file) ≡ false → code_ranges file ≡ code_of (live file)
unfolding code_ranges
ranges_are file none = ap (λ t. ranges_of t (section_headers file) (live file)) none

pub code_left : (file ys : List ℕ) (entry n : ℕ) (headers : List ProgramHeader) → file ≡ elf_header entry 0 n 0 ++ ys → program_headers file ≡ headers
    → code_ranges file ≡ code_of (live_of headers)
code_left file ys entry n headers is are =
    ranges_are file (no_sections file (ap (λ f. (header_of f).e_shoff) is ∙ no_table entry n ys)) ∙ ap code_of (live_are file headers are)

-- of a file without sections whose program headers pass, what is left is the check of its code area
pub left_fault : (file ys : List ℕ) (entry n : ℕ) (headers : List ProgramHeader) → file ≡ elf_header entry 0 n 0 ++ ys
    → 1 ≤ n → n < 65536 → 52 + 32 * n ≤ length file → program_headers file ≡ headers → segment_fault (length file) headers ≡ None
    → elf_fault file ≡ option_or (area_of (live_of headers)) None
unfolding elf_fault
left_fault file ys entry n headers is some few room are passed =
    let none = no_sections file (ap (λ f. (header_of f).e_shoff) is ∙ no_table entry n ys) in
    let identity = ap identity_fault is ∙ identity_passes entry 0 n 0 ys in
    let table = table_passes file n (ap (λ f. (header_of f).e_phnum) is ∙ count_is entry 0 n 0 ys few) (ap (λ f. (header_of f).e_phoff) is ∙ table_place_is entry 0 n 0 ys)
    (ap (λ f. (header_of f).e_phentsize) is ∙ entry_size entry 0 n 0 ys) some room in
    let segments = ap (segment_fault (length file)) are ∙ passed in
    let section_table = section_table_passes file none in
    let sections = ap (section_fault (live file)) (no_section_headers file none) ∙ no_section_faults (live file) in
    let area = ap (λ ranges. area_fault ranges (live file)) (ranges_are file none) ∙ ap area_of (live_are file headers are) in
    λ i. first_fault (identity i ∷ table i ∷ segments i ∷ section_table i ∷ sections i ∷ area i ∷ [])

-- ---- the program headers
none_from : {X : Type 0} (test : X → Bool) (i : ℕ) (xs : List X) → All (λ x. test x ≡ false) xs → position_from test i xs ≡ None
none_from test i [] fail = refl
none_from test i (x ∷ xs) fail =
    ap (λ t. cond t (Some i) (position_from test (i + 1) xs)) (All-head (λ x. test x ≡ false) x xs fail)
    ∙ none_from test (i + 1) xs (All-tail (λ x. test x ≡ false) x xs fail)

pub none_passes : {X : Type 0} (test : X → Bool) (xs : List X) → All (λ x. test x ≡ false) xs → position test xs ≡ None
none_passes test xs fail = position_from-zero test xs ∙ none_from test 0 xs fail

-- a program header passes each check of one header, in a file of this length
abbrev pub Passes : ℕ → ProgramHeader → Type 0
Passes len h =
    (is_dynamic h ≡ false) × (is_outside len h ≡ false) × (is_oversized h ≡ false) × (is_too_high h ≡ false) × (is_writable_text h ≡ false)

pub headers_pass : (len : ℕ) (headers : List ProgramHeader) → All (Passes len) headers → overlap_from 0 headers ≡ None
    → segment_fault len headers ≡ None
unfolding segment_fault
headers_pass len headers pass apart =
    let static = none_passes is_dynamic headers (λ k d lt. (pass k d lt).0) in
    let inside = none_passes (is_outside len) headers (λ k d lt. (pass k d lt).1) in
    let sized = none_passes is_oversized headers (λ k d lt. (pass k d lt).2) in
    let low = none_passes is_too_high headers (λ k d lt. (pass k d lt).3) in
    let kept = none_passes is_writable_text headers (λ k d lt. (pass k d lt).4) in
    λ i. first_fault (fails_at 11 (static i) ∷ fails_at 12 (inside i) ∷ fails_at 13 (sized i) ∷ fails_at 14 (low i) ∷ apart i ∷ fails_at 16 (kept i) ∷ [])

-- the header of a segment, by its place and length in the file and its address and length in memory
abbrev pub loaded : ℕ → ℕ → ℕ → ℕ → ℕ → ProgramHeader
loaded at address flags n m = record { p_type = 1; segment = record { offset = at; vaddr = address; filesz = n; memsz = m; flags = flags } }

-- that of a segment all of whose bytes are in the file
abbrev pub whole : ℕ → ℕ → ℕ → ℕ → ProgramHeader
whole at address flags n = loaded at address flags n n

never_both : (a b c : Bool) → (b && c) ≡ false → (a && b && c) ≡ false
never_both true b c never = never
never_both false b c never = refl

pub loaded_passes : (len at address flags n m : ℕ) → at + n ≤ len → n ≤ m → address + m ≤ 0x7F00_0000 → (has_flag flags 1 && has_flag flags 2) ≡ false
    → Passes len (loaded at address flags n m)
loaded_passes len at address flags n m inside sized low never = (
  refl,
  and_right (nat_lt 0 n) (nat_lt len (at + n)) (le-ltb len (at + n) inside),
  le-ltb m n sized,
  and_right (nat_lt 0 m) (nat_lt 0x7F00_0000 (address + m)) (le-ltb 0x7F00_0000 (address + m) low),
  never_both (nat_lt 0 m) (has_flag flags 1) (has_flag flags 2) never,
)

pub whole_passes : (len at address flags n : ℕ) → at + n ≤ len → address + n ≤ 0x7F00_0000 → (has_flag flags 1 && has_flag flags 2) ≡ false
    → Passes len (whole at address flags n)
whole_passes len at address flags n inside low never = loaded_passes len at address flags n n inside (omega arith) low never

-- one after another share no address
pub apart_in_order : (at address flags n m at' address' flags' n' m' : ℕ) → address + m ≤ address'
    → overlap_from 0 (loaded at address flags n m ∷ loaded at' address' flags' n' m' ∷ []) ≡ None
unfolding overlap_from
apart_in_order at address flags n m at' address' flags' n' m' order =
    let h = loaded at address flags n m in
    let g = loaded at' address' flags' n' m' in
    let apart : overlap h g ≡ false = and_right (nat_lt 0 m && nat_lt 0 m') (meet address (address + m) address' (address' + m')) (meets_not address m address' m' order) in
    let found : ℕ → ElfFault = λ k. record { kind = 15; i = 0; j = 0 + 1 + k } in
    let none = none_passes (overlap h) (g ∷ []) (All-cons (λ x. overlap h x ≡ false) g [] apart (All-nil (λ x. overlap h x ≡ false))) in
    λ i. option_or (option_map found (none i)) None
  where
    meets_not : (v n w m : ℕ) → v + n ≤ w → meet v (v + n) w (w + m) ≡ false
    meets_not v n w m order = grind (arith, nat_tests)
