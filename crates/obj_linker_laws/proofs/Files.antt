-- The file of a linked program passes the checks of `elf_reader`.
use Rattle.std.proofs.Common.{◌≡◌, ℕ, ◌+◌, ◌*◌, ◌/◌, ◌<◌, ◌≤◌, ◌^◌, true, false, cond, not, ◌&&◌, ◌||◌, ◌==◌, nat_lt, List, [], ◌∷◌, ◌++◌, length, map, filter, drop, get_or, replicate, None, refl, sym, ap, ◌∙◌, inl, inr, ◌⊎◌, arith}
use Rattle.std.specs.List.{list_any, range_with_len}
use Rattle.std.specs.Option.{option_or}
use Rattle.std.proofs.lemmas.Bool.{and_right, cases_lt, le-leb, le-ltb, lt-ltb, ne_eqb}
use Rattle.std.proofs.lemmas.List.{get_or-drop}
use Rattle.std.proofs.lemmas.List.Elements.{All-cons, All-nil}
use Rattle.run_definition.specs.Words.{word_of_bytes, word_of_list}
use Rattle.run_definition.specs.declared.order.Order.{Order}
use Rattle.run_definition.specs.declared.order.Order.TheVariants.{Big}
use Rattle.nv_words.proofs.LaneLemmas.{word_of_lanes}
use Rattle.elf_definition.specs.declared.program_header.ProgramHeader.{ProgramHeader}
use Rattle.elf_definition.specs.declared.range.Range.{Range}
use Rattle.elf_definition.specs.declared.section_header.SectionHeader.{SectionHeader}
use Rattle.elf_definition.specs.declared.segment.Segment.{Segment}
use Rattle.elf_definition.specs.Area.{area_fault, code_ranges, is_shared_page, address_pages, range_is_on_page, ranges_of, section_range}
use Rattle.elf_definition.specs.Check.{fails, fails_at, first_fault, least_below}
use Rattle.elf_definition.specs.Fault.{elf_fault}
use Rattle.elf_definition.specs.Header.{header_of, identity_fault, order_of}
use Rattle.elf_definition.specs.Sections.{has_sections, holds_section, is_code, is_code_outside, is_code_unaligned, is_section_table_outside, section_fault, section_header, section_headers, section_table_fault}
use Rattle.elf_definition.specs.Segments.{live, overlap_from, program_header, program_headers, segment_fault}
use Rattle.elf_definition.specs.File as writer
use Rattle.elf_definition.specs.FilePlaces.{aligned}
use Rattle.elf_writer.proofs.ReadBackLemmas.{count_is, table_place_is}
use Rattle.elf_definition.specs.Parts.{PartSegment as Content}
use Rattle.mips_asm_laws.proofs.Areas.{area_passes, live_first, no_shared, pages_apart}
use Rattle.mips_asm_laws.proofs.Checks.{Passes, apart_in_order, entry_size, headers_pass, identity_passes, live_are, live_of, loaded, loaded_passes, none_passes, table_passes}
use Rattle.mips_asm_laws.proofs.Written.{header_bytes}

-- ---- the program headers
-- the text and the data, with their lengths in memory
abbrev pub text_content : List ℕ → ℕ → Content
text_content bytes m = record { address = 0x00400000; flags = 5; memory = m; contents = bytes }

abbrev pub data_content : List ℕ → ℕ → Content
data_content bytes m = record { address = 0x10000000; flags = 6; memory = m; contents = bytes }

abbrev pub text_at : ℕ → ℕ → ProgramHeader
text_at at n = loaded at 0x00400000 5 n n

abbrev pub data_at : ℕ → ℕ → ℕ → ProgramHeader
data_at at n m = loaded at 0x10000000 6 n m

pub one_header : (entry table n : ℕ) (text ys : List ℕ) → length text ≡ n → n < 2 ^ 32
    → program_headers (writer.elf_header entry table 1 2 ++ (header_bytes 84 (text_content text n ∷ []) ++ ys)) ≡ text_at 84 n ∷ []
unfolding program_headers program_header header_of order_of
one_header entry table n text ys size short =
    let filesz = word_of_lanes (length text) (omega (arith, size, short)) ∙ size in
    let memsz = word_of_lanes n short in
    λ i. loaded 84 0x00400000 5 (filesz i) (memsz i) ∷ []

pub two_headers : (entry table n d m : ℕ) (text bytes ys : List ℕ) → length text ≡ n → length bytes ≡ d → n < 2 ^ 31 → d < 2 ^ 32 → m < 2 ^ 32
    → program_headers (writer.elf_header entry table 2 2 ++ (header_bytes 116 (text_content text n ∷ data_content bytes m ∷ []) ++ ys))
    ≡ text_at 116 n ∷ data_at (aligned (116 + n)) d m ∷ []
unfolding program_headers program_header header_of order_of
two_headers entry table n d m text bytes ys size size' short short' low =
    let filesz = word_of_lanes (length text) (omega (arith, size, short)) ∙ size in
    let memsz = word_of_lanes n (omega (arith, short)) in
    let at = word_of_lanes (aligned (116 + length text)) (omega (arith, size, short)) ∙ ap (λ k. aligned (116 + k)) size in
    let filesz' = word_of_lanes (length bytes) (omega (arith, size', short')) ∙ size' in
    let memsz' = word_of_lanes m low in
    λ i. loaded 116 0x00400000 5 (filesz i) (memsz i) ∷ loaded (at i) 0x10000000 6 (filesz' i) (memsz' i) ∷ []

text_passes : (len at n : ℕ) → n ≤ 16777216 → at + n ≤ len → Passes len (text_at at n)
text_passes len at n short inside = loaded_passes len at 0x00400000 5 n n inside (omega arith) (omega (arith, short)) refl

data_passes : (len at n m : ℕ) → n ≤ m → m ≤ 1073741824 → at + n ≤ len → Passes len (data_at at n m)
data_passes len at n m le short inside = loaded_passes len at 0x10000000 6 n m inside le (omega (arith, short)) refl

pub one_passes : (len at n : ℕ) → n ≤ 16777216 → at + n ≤ len → segment_fault len (text_at at n ∷ []) ≡ None
unfolding overlap_from
one_passes len at n short inside =
    headers_pass len (text_at at n ∷ []) (All-cons (Passes len) (text_at at n) [] (text_passes len at n short inside) (All-nil (Passes len))) refl

pub two_pass : (len at n at' d m : ℕ) → n ≤ 16777216 → d ≤ m → m ≤ 1073741824 → at + n ≤ len → at' + d ≤ len
    → segment_fault len (text_at at n ∷ data_at at' d m ∷ []) ≡ None
two_pass len at n at' d m short le low inside inside' =
    headers_pass len (text_at at n ∷ data_at at' d m ∷ [])
    (All-cons (Passes len) (text_at at n) (data_at at' d m ∷ []) (text_passes len at n short inside)
    (All-cons (Passes len) (data_at at' d m) [] (data_passes len at' d m le low inside') (All-nil (Passes len))))
    (apart_in_order at 0x00400000 5 n n at' 0x10000000 6 d m (omega (arith, short)))

-- ---- the section headers
table_is : (entry table n : ℕ) (ys : List ℕ) → table < 2 ^ 32 → (header_of (writer.elf_header entry table n 2 ++ ys)).e_shoff ≡ table
unfolding header_of order_of
table_is entry table n ys small = word_of_lanes table small

two_sections : (entry table n : ℕ) (ys : List ℕ) → (header_of (writer.elf_header entry table n 2 ++ ys)).e_shnum ≡ 2
unfolding header_of order_of
two_sections entry table n ys = refl

section_size : (entry table n : ℕ) (ys : List ℕ) → (header_of (writer.elf_header entry table n 2 ++ ys)).e_shentsize ≡ 40
unfolding header_of order_of
section_size entry table n ys = refl

big : (entry table n : ℕ) (ys : List ℕ) → order_of (writer.elf_header entry table n 2 ++ ys) ≡ Big
unfolding order_of
big entry table n ys = refl

section_table_passes : (file : List ℕ) (table : ℕ) → (header_of file).e_shoff ≡ table → (header_of file).e_shnum ≡ 2 → (header_of file).e_shentsize ≡ 40
    → table + 80 ≤ length file → section_table_fault file ≡ None
unfolding section_table_fault
section_table_passes file table place count size room =
    let has = has_sections (header_of file) in
    let sized : (has && not ((header_of file).e_shentsize == 40)) ≡ false = and_right has (not ((header_of file).e_shentsize == 40)) (ap (λ k. not (k == 40)) size) in
    let inside : is_section_table_outside file (header_of file) ≡ false =
    le-ltb (length file) ((header_of file).e_shoff + 40 * (header_of file).e_shnum) (omega (arith, place, count, room)) in
    let within = and_right has (is_section_table_outside file (header_of file)) inside in
    λ i. first_fault (fails 17 (sized i) ∷ fails 18 (within i) ∷ [])

-- the section of index 0, and the code
abbrev pub no_section : SectionHeader
no_section = record { sh_type = 0; sh_flags = 0; sh_addr = 0; sh_size = 0 }

abbrev pub code_header : ℕ → SectionHeader
code_header size = record { sh_type = 1; sh_flags = 6; sh_addr = 0x00400000; sh_size = size }

word_dropped : (file : List ℕ) (n k : ℕ) → word_of_list Big file (n + k) ≡ word_of_list Big (drop n file) k
word_dropped file n k =
    let each = λ (m : ℕ). sym (get_or-drop n file (k + m) 0 ∙ ap (λ j. get_or file j 0) (let e : n + (k + m) ≡ n + k + m = omega arith in e)) in
    let first = sym (get_or-drop n file k 0) in
    λ i. word_of_bytes (first i) (each 1 i) (each 2 i) (each 3 i)

word_there : (file rest : List ℕ) (table i k : ℕ) → order_of file ≡ Big → (header_of file).e_shoff ≡ table → drop table file ≡ rest
    → word_of_list (order_of file) file ((header_of file).e_shoff + 40 * i + k) ≡ word_of_list Big rest (40 * i + k)
word_there file rest table i k order place there =
    ap (λ (o : Order). word_of_list o file ((header_of file).e_shoff + 40 * i + k)) order
    ∙ ap (word_of_list Big file) (let e : (header_of file).e_shoff + 40 * i + k ≡ table + (40 * i + k) = omega (arith, place) in e)
    ∙ word_dropped file table (40 * i + k) ∙ ap (λ l. word_of_list Big l (40 * i + k)) there

first_header : (file rest : List ℕ) (table : ℕ) → order_of file ≡ Big → (header_of file).e_shoff ≡ table → drop table file ≡ replicate 40 0 ++ rest
    → section_header file 0 ≡ no_section
unfolding section_header
first_header file rest table order place there =
    let at = λ (k : ℕ). word_there file (replicate 40 0 ++ rest) table 0 k order place there in
    λ i. record { sh_type = at 4 i; sh_flags = at 8 i; sh_addr = at 12 i; sh_size = at 20 i }

second_header : (file : List ℕ) (table offset size : ℕ) → order_of file ≡ Big → (header_of file).e_shoff ≡ table → size < 2 ^ 32
    → drop table file ≡ replicate 40 0 ++ (writer.section_header_bytes offset (record { kind = 1; flags = 6; addr = 0x00400000; size = size }) ++ [])
    → section_header file 1 ≡ code_header size
unfolding section_header
second_header file table offset size order place small there =
    let rest = replicate 40 0 ++ (writer.section_header_bytes offset (record { kind = 1; flags = 6; addr = 0x00400000; size = size }) ++ []) in
    let at = λ (k : ℕ). word_there file rest table 1 k order place there in
    let long = at 20 ∙ word_of_lanes size small in
    λ i. record { sh_type = at 4 i; sh_flags = at 8 i; sh_addr = at 12 i; sh_size = long i }

sections_read : (file : List ℕ) (table size : ℕ) → (header_of file).e_shoff ≡ table → (header_of file).e_shnum ≡ 2 → 1 ≤ table
    → section_header file 0 ≡ no_section → section_header file 1 ≡ code_header size
    → (has_sections (header_of file) ≡ true) × (section_headers file ≡ no_section ∷ code_header size ∷ [])
unfolding section_headers
sections_read file table size place count some first second =
    let placed : not ((header_of file).e_shoff == 0) ≡ true = ap not (ne_eqb (header_of file).e_shoff 0 (λ none. omega (arith, none, place, some))) in
    let has : has_sections (header_of file) ≡ true = ap (λ t. t && not ((header_of file).e_shnum == 0)) placed ∙ ap (λ k. not (k == 0)) count in (
      has,
      ap (λ t. cond t (map (section_header file) (range_with_len 0 (header_of file).e_shnum)) []) has
          ∙ ap (λ k. map (section_header file) (range_with_len 0 k)) count ∙ (λ i. first i ∷ second i ∷ []),
    )

-- ---- the code lies in the text
holds_code : (at n size : ℕ) → size ≤ n → holds_section (code_header size) (text_at at n).segment ≡ true
holds_code at n size le = ap (λ t. true && t) (le-leb (0x00400000 + size) (0x00400000 + n) (omega (arith, le)))

code_inside : (at n size : ℕ) (rest : List Segment) → size ≤ n → is_code_outside ((text_at at n).segment ∷ rest) (code_header size) ≡ false
code_inside at n size rest le =
    and_right (nat_lt 0 size) (not (list_any (holds_section (code_header size)) ((text_at at n).segment ∷ rest)))
    (ap (λ t. not (t || list_any (holds_section (code_header size)) rest)) (holds_code at n size le))

-- the checks of the two sections, of which the second is not outside of the segments
sections_pass : (segments : List Segment) (size : ℕ) → is_code_outside segments (code_header size) ≡ false
    → section_fault segments (no_section ∷ code_header size ∷ []) ≡ None
unfolding section_fault
sections_pass segments size inside =
    let sections = no_section ∷ code_header size ∷ [] in
    let unaligned : is_code_unaligned (code_header size) ≡ false = and_right (nat_lt 0 size) false refl in
    let outside = none_passes (is_code_outside segments) sections
    (All-cons (λ s. is_code_outside segments s ≡ false) no_section (code_header size ∷ []) refl
    (All-cons (λ s. is_code_outside segments s ≡ false) (code_header size) [] inside (All-nil (λ s. is_code_outside segments s ≡ false)))) in
    let aligned_all = none_passes is_code_unaligned sections
    (All-cons (λ s. is_code_unaligned s ≡ false) no_section (code_header size ∷ []) refl
    (All-cons (λ s. is_code_unaligned s ≡ false) (code_header size) [] unaligned (All-nil (λ s. is_code_unaligned s ≡ false)))) in
    λ i. first_fault (fails_at 19 (outside i) ∷ fails_at 20 (aligned_all i) ∷ [])

-- ---- the code area
abbrev pub code_range : ℕ → Range
code_range size = record { first = 0x00400000; words = size / 4 }

abbrev ranges_in : ℕ → List Range
ranges_in size = map section_range (filter is_code (no_section ∷ code_header size ∷ []))

some_code : (size : ℕ) → 1 ≤ size → ranges_in size ≡ code_range size ∷ []
some_code size some = ap (λ t. map section_range (cond t (code_header size ∷ []) [])) (lt-ltb 0 size (omega (arith, some)))

no_code : ranges_in 0 ≡ []
no_code = refl

found_words : (size : ℕ) → 1 ≤ size / 4 → (size / 4 == 0) ≡ false
found_words size some = ne_eqb (size / 4) 0 (λ none. omega (arith, none, some))

text_area : (at n size : ℕ) → 1 ≤ n → 1 ≤ size / 4 → area_fault (code_range size ∷ []) ((text_at at n).segment ∷ []) ≡ None
text_area at n size live some =
    let text = (text_at at n).segment in
    let in_memory : Segment → Type 0 = λ s. 1 ≤ s.memsz in
    area_passes (code_range size) (text ∷ []) (found_words size some)
    (no_shared (code_range size ∷ []) (text ∷ []) (All-cons in_memory text [] live (All-nil in_memory))
    (λ page. and_right (list_any (range_is_on_page page) (code_range size ∷ [])) false refl))

two_area : (at n at' d m size : ℕ) → 1 ≤ n → 1 ≤ m → 1 ≤ size / 4 → size ≤ 16777216
    → area_fault (code_range size ∷ []) ((text_at at n).segment ∷ (data_at at' d m).segment ∷ []) ≡ None
two_area at n at' d m size live live' some short =
    let text = (text_at at n).segment in
    let bytes = (data_at at' d m).segment in
    let in_memory : Segment → Type 0 = λ s. 1 ≤ s.memsz in
    area_passes (code_range size) (text ∷ bytes ∷ []) (found_words size some)
    (no_shared (code_range size ∷ []) (text ∷ bytes ∷ [])
    (All-cons in_memory text (bytes ∷ []) live (All-cons in_memory bytes [] live' (All-nil in_memory)))
    (λ page. pages_apart page (size / 4) ((0x10000000 + m + 4095) / 4096) (omega (arith, short))))

no_words : (size : ℕ) (segments : List Segment) → size / 4 ≡ 0 → area_fault (code_range size ∷ []) segments ≡ fails 21 true
unfolding area_fault
no_words size segments none =
    let later = option_or (fails_at 22 (least_below (is_shared_page (code_range size ∷ []) segments) address_pages)) None in
    ap (λ k. option_or (fails 21 ((k == 0) && true)) later) none

no_ranges : (segments : List Segment) → area_fault [] segments ≡ fails 21 true
unfolding area_fault
no_ranges segments = refl

-- ---- the whole file
-- what is known of the file of a linked program: its header, its program headers and its section headers
pub record IsShaped (file : List ℕ) (entry table n size : ℕ) (headers : List ProgramHeader) : Type 0 where
  pub rest : List ℕ
  pub front : file ≡ writer.elf_header entry table n 2 ++ rest
  pub some : 1 ≤ n
  pub few : n < 65536
  pub long : 52 + 32 * n ≤ length file
  pub table_placed : 1 ≤ table
  pub table_low : table < 2 ^ 32
  pub table_inside : table + 80 ≤ length file
  pub size_low : size < 2 ^ 32
  pub headers_are : program_headers file ≡ headers
  pub passed : segment_fault (length file) headers ≡ None
  pub offset : ℕ
  pub there :
      drop table file
      ≡ replicate 40 0 ++ (writer.section_header_bytes offset (record { kind = 1; flags = 6; addr = 0x00400000; size = size }) ++ [])

sections_of : (file : List ℕ) (entry table n size : ℕ) (headers : List ProgramHeader) → IsShaped file entry table n size headers
    → (has_sections (header_of file) ≡ true) × (section_headers file ≡ no_section ∷ code_header size ∷ [])
sections_of file entry table n size headers s =
    let order = ap order_of s.front ∙ big entry table n s.rest in
    let place = ap (λ f. (header_of f).e_shoff) s.front ∙ table_is entry table n s.rest s.table_low in
    let count = ap (λ f. (header_of f).e_shnum) s.front ∙ two_sections entry table n s.rest in
    sections_read file table size place count s.table_placed
    (first_header file (writer.section_header_bytes s.offset (record { kind = 1; flags = 6; addr = 0x00400000; size = size }) ++ []) table order place s.there)
    (second_header file table s.offset size order place s.size_low s.there)

pub ranges_are : (file : List ℕ) (entry table n size : ℕ) (headers : List ProgramHeader) → IsShaped file entry table n size headers → code_ranges file ≡ ranges_in size
unfolding code_ranges
ranges_are file entry table n size headers s =
    let found = sections_of file entry table n size headers s in
    ap (λ t. ranges_of t (section_headers file) (live file)) found.0 ∙ ap (λ l. map section_range (filter is_code l)) found.1

-- what is left is the check of the code area
left : (file : List ℕ) (entry table n size : ℕ) (headers : List ProgramHeader) → IsShaped file entry table n size headers
    → is_code_outside (live_of headers) (code_header size) ≡ false
    → elf_fault file ≡ option_or (area_fault (ranges_in size) (live_of headers)) None
unfolding elf_fault
left file entry table n size headers s inside =
    let found = sections_of file entry table n size headers s in
    let lives = live_are file headers s.headers_are in
    let count = ap (λ f. (header_of f).e_phnum) s.front ∙ count_is entry table n 2 s.rest s.few in
    let place = ap (λ f. (header_of f).e_phoff) s.front ∙ table_place_is entry table n 2 s.rest in
    let entries = ap (λ f. (header_of f).e_phentsize) s.front ∙ entry_size entry table n 2 s.rest in
    let identity = ap identity_fault s.front ∙ identity_passes entry table n 2 s.rest in
    let table_passed = table_passes file n count place entries s.some s.long in
    let segments = ap (segment_fault (length file)) s.headers_are ∙ s.passed in
    let section_table = section_table_passes file table (ap (λ f. (header_of f).e_shoff) s.front ∙ table_is entry table n s.rest s.table_low)
    (ap (λ f. (header_of f).e_shnum) s.front ∙ two_sections entry table n s.rest)
    (ap (λ f. (header_of f).e_shentsize) s.front ∙ section_size entry table n s.rest) s.table_inside in
    let sections = ap (λ l. section_fault l (section_headers file)) lives ∙ ap (section_fault (live_of headers)) found.1 ∙ sections_pass (live_of headers) size inside in
    let area = ap (λ r. area_fault r (live file)) (ranges_are file entry table n size headers s) ∙ ap (area_fault (ranges_in size)) lives in
    λ i. first_fault (identity i ∷ table_passed i ∷ segments i ∷ section_table i ∷ sections i ∷ area i ∷ [])

-- where the code has a word, the file passes; the text has at least its bytes
pub one_whole : (file : List ℕ) (entry table at n size : ℕ) → IsShaped file entry table 1 size (text_at at n ∷ []) → size ≤ n → 1 ≤ size / 4 → elf_fault file ≡ None
one_whole file entry table at n size s le some =
    let lives : live_of (text_at at n ∷ []) ≡ (text_at at n).segment ∷ [] = live_first (text_at at n) [] (lt-ltb 0 n (omega (arith, le, some))) in
    left file entry table 1 size (text_at at n ∷ []) s (ap (λ l. is_code_outside l (code_header size)) lives ∙ code_inside at n size [] le)
    ∙ ap (λ r. option_or (area_fault r (live_of (text_at at n ∷ []))) None) (some_code size (omega (arith, some)))
    ∙ ap (λ l. option_or (area_fault (code_range size ∷ []) l) None) lives
    ∙ ap (λ o. option_or o None) (text_area at n size (omega (arith, le, some)) some)

pub two_whole : (file : List ℕ) (entry table at n at' d m size : ℕ) → IsShaped file entry table 2 size (text_at at n ∷ data_at at' d m ∷ [])
    → size ≤ n → n ≤ 16777216 → 1 ≤ m → 1 ≤ size / 4 → elf_fault file ≡ None
two_whole file entry table at n at' d m size s le short live some =
    let headers = text_at at n ∷ data_at at' d m ∷ [] in
    let text = (text_at at n).segment in
    let bytes = (data_at at' d m).segment in
    let lives : live_of headers ≡ text ∷ bytes ∷ [] =
    live_first (text_at at n) (data_at at' d m ∷ []) (lt-ltb 0 n (omega (arith, le, some)))
    ∙ ap (λ l. text ∷ l) (live_first (data_at at' d m) [] (lt-ltb 0 m (omega (arith, live)))) in
    left file entry table 2 size headers s (ap (λ l. is_code_outside l (code_header size)) lives ∙ code_inside at n size (bytes ∷ []) le)
    ∙ ap (λ r. option_or (area_fault r (live_of headers)) None) (some_code size (omega (arith, some)))
    ∙ ap (λ l. option_or (area_fault (code_range size ∷ []) l) None) lives
    ∙ ap (λ o. option_or o None) (two_area at n at' d m size (omega (arith, le, some)) live some (omega (arith, le, short)))

-- where it has none, it has no code
pub without_code : (file : List ℕ) (entry table n size : ℕ) (headers : List ProgramHeader) → IsShaped file entry table n size headers
    → (1 ≤ size → is_code_outside (live_of headers) (code_header size) ≡ false) → size / 4 ≡ 0 → elf_fault file ≡ fails 21 true
without_code file entry table n size headers s inside none = by (cases_lt 0 size)
  where
    by : (0 < size) ⊎ (size ≤ 0) → elf_fault file ≡ fails 21 true
    by (inl some) =
        left file entry table n size headers s (inside (omega (arith, some)))
        ∙ ap (λ r. option_or (area_fault r (live_of headers)) None) (some_code size (omega (arith, some)))
        ∙ ap (λ o. option_or o None) (no_words size (live_of headers) none)
    by (inr le) =
        let empty : size ≡ 0 = omega (arith, le) in
        left file entry table n size headers s (ap (λ t. t && not (list_any (holds_section (code_header size)) (live_of headers))) (ap (nat_lt 0) empty))
        ∙ ap (λ k. option_or (area_fault (ranges_in k) (live_of headers)) None) empty
        ∙ ap (λ o. option_or o None) (no_ranges (live_of headers))

pub one_without : (file : List ℕ) (entry table at n size : ℕ) → IsShaped file entry table 1 size (text_at at n ∷ []) → size ≤ n → size / 4 ≡ 0
    → elf_fault file ≡ fails 21 true
one_without file entry table at n size s le none =
    without_code file entry table 1 size (text_at at n ∷ []) s
    (λ some. ap (λ l. is_code_outside l (code_header size)) (live_first (text_at at n) [] (lt-ltb 0 n (omega (arith, le, some)))) ∙ code_inside at n size [] le)
    none

pub two_without : (file : List ℕ) (entry table at n size : ℕ) (h : ProgramHeader) → IsShaped file entry table 2 size (text_at at n ∷ h ∷ []) → size ≤ n → size / 4 ≡ 0
    → elf_fault file ≡ fails 21 true
two_without file entry table at n size h s le none =
    without_code file entry table 2 size (text_at at n ∷ h ∷ []) s
    (λ some.
    ap (λ l. is_code_outside l (code_header size)) (live_first (text_at at n) (h ∷ []) (lt-ltb 0 n (omega (arith, le, some))))
    ∙ code_inside at n size (live_of (h ∷ [])) le)
    none

pub shaped_code : (file : List ℕ) (entry table n size : ℕ) (headers : List ProgramHeader) → IsShaped file entry table n size headers → 1 ≤ size / 4
    → code_ranges file ≡ code_range size ∷ []
shaped_code file entry table n size headers s some =
    ranges_are file entry table n size headers s ∙ some_code size (omega (arith, some))
