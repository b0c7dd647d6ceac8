-- The code area of a program.
use Rattle.std.proofs.Common.{◌≡◌, ℕ, ◌+◌, ◌-◌, ◌*◌, ◌/◌, ◌≤◌, true, false, cond, ◌&&◌, ◌||◌, ◌==◌, nat_le, List, [], ◌∷◌, map, filter, None, refl, sym, ap, ◌∙◌, arith}
use Rattle.std.specs.List.{All, list_any}
use Rattle.std.proofs.lemmas.Bool.{and_right, lt-ltb, ne_eqb}
use Rattle.std.proofs.lemmas.Bool.Decides.{nat_tests}
use Rattle.std.proofs.lemmas.List.Elements.{All-cons, All-nil}
use Rattle.elf_definition.specs.declared.program_header.ProgramHeader.{ProgramHeader}
use Rattle.elf_definition.specs.declared.range.Range.{Range}
use Rattle.elf_definition.specs.declared.segment.Segment.{Segment}
use Rattle.elf_definition.specs.Check.{fails, fails_at, first_fault, least_below}
use Rattle.elf_definition.specs.Segments.{is_live, is_writable}
use Rattle.elf_definition.specs.Area.{area_fault, is_shared_page, address_pages, range_is_on_page, segment_range}
use Rattle.elf_reader.specs.Spans.{are_within, page_span}
use Rattle.elf_reader.proofs.PageLemmas.{shared_least}
use Rattle.mips_asm_laws.proofs.Checks.{area_of, live_of, whole}

pub live_first : (h : ProgramHeader) (headers : List ProgramHeader) → is_live h ≡ true → live_of (h ∷ headers) ≡ h.segment ∷ live_of headers
live_first h headers on = ap (λ t. map (λ (h : ProgramHeader). h.segment) (cond t (h ∷ filter is_live headers) (filter is_live headers))) on

-- no page is shared where none holds code and writable data
pub no_shared : (ranges : List Range) (segments : List Segment) → All (λ (s : Segment). 1 ≤ s.memsz) segments
    → ((page : ℕ) → (list_any (range_is_on_page page) ranges && are_within page (page + 1) (map page_span (filter is_writable segments))) ≡ false)
    → least_below (is_shared_page ranges segments) address_pages ≡ None
no_shared ranges segments live apart =
    let spans = map page_span (filter is_writable segments) in
    sym (shared_least ranges segments spans spans spans None address_pages live refl (λ first behind lt. refl) refl (λ page le. apart page) tt)

pub area_passes : (r : Range) (segments : List Segment) → (r.words == 0) ≡ false → least_below (is_shared_page (r ∷ []) segments) address_pages ≡ None
    → area_fault (r ∷ []) segments ≡ None
unfolding area_fault
area_passes r segments some none = λ i. first_fault (fails 21 (some i && true) ∷ fails_at 22 (none i) ∷ [])

-- the text, and the data
abbrev pub text_at : ℕ → ℕ → ProgramHeader
text_at at n = whole at 0x00400000 5 n

abbrev pub data_at : ℕ → ℕ → ProgramHeader
data_at at n = whole at 0x10000000 6 n

some_words : (n : ℕ) → 4 ≤ n → ((0x00400000 + n) / 4 - 0x00100000 == 0) ≡ false
some_words n some = ne_eqb ((0x00400000 + n) / 4 - 0x00100000) 0 (λ none. omega (arith, none, some))

few_words : (n : ℕ) → n ≤ 4194304 → (0x00400000 + n) / 4 - 0x00100000 ≤ 4194304
few_words n short = omega (arith, short)

-- the text ends below the page where the data begins
pub pages_apart : (page words end : ℕ) → words ≤ 4194304
    → ((range_is_on_page page (record { first = 0x00400000; words = words }) || false) && ((nat_le 65536 page && nat_le (page + 1) end) || false)) ≡ false
pages_apart page words end few = grind (arith, nat_tests)

pub text_live : (at n : ℕ) → 4 ≤ n → live_of (text_at at n ∷ []) ≡ (text_at at n).segment ∷ []
text_live at n some = live_first (text_at at n) [] (lt-ltb 0 n (omega (arith, some)))

pub both_live : (at n at' m : ℕ) → 4 ≤ n → 1 ≤ m → live_of (text_at at n ∷ data_at at' m ∷ []) ≡ (text_at at n).segment ∷ (data_at at' m).segment ∷ []
both_live at n at' m some some' =
    live_first (text_at at n) (data_at at' m ∷ []) (lt-ltb 0 n (omega (arith, some)))
    ∙ ap (λ segments. (text_at at n).segment ∷ segments) (live_first (data_at at' m) [] (lt-ltb 0 m (omega (arith, some'))))

-- the code is the text
pub text_range : (at n k : ℕ) → n ≡ 4 * k → segment_range (text_at at n).segment ≡ record { first = 0x00400000; words = k }
text_range at n k size =
    let words : (0x00400000 + n) / 4 - 0x00100000 ≡ k = omega (arith, size) in
    λ i. record { first = 0x00400000; words = words i }

pub text_area : (at n : ℕ) → 4 ≤ n → area_of (live_of (text_at at n ∷ [])) ≡ None
text_area at n some =
    let text = (text_at at n).segment in
    let in_memory : Segment → Type 0 = λ s. 1 ≤ s.memsz in
    ap area_of (text_live at n some)
    ∙ area_passes (segment_range text) (text ∷ []) (some_words n some)
    (no_shared (segment_range text ∷ []) (text ∷ []) (All-cons in_memory text [] (omega (arith, some)) (All-nil in_memory))
    (λ page. and_right (list_any (range_is_on_page page) (segment_range text ∷ [])) false refl))

pub both_area : (at n at' m : ℕ) → 4 ≤ n → n ≤ 4194304 → 1 ≤ m → area_of (live_of (text_at at n ∷ data_at at' m ∷ [])) ≡ None
both_area at n at' m some short some' =
    let text = (text_at at n).segment in
    let bytes = (data_at at' m).segment in
    let in_memory : Segment → Type 0 = λ s. 1 ≤ s.memsz in
    ap area_of (both_live at n at' m some some')
    ∙ area_passes (segment_range text) (text ∷ bytes ∷ []) (some_words n some)
    (no_shared (segment_range text ∷ []) (text ∷ bytes ∷ [])
    (All-cons in_memory text (bytes ∷ []) (omega (arith, some)) (All-cons in_memory bytes [] some' (All-nil in_memory)))
    (λ page. pages_apart page ((0x00400000 + n) / 4 - 0x00100000) ((0x10000000 + m + 4095) / 4096) (few_words n short)))

-- without text there is no code
pub no_text_area : (at : ℕ) → area_of (live_of (text_at at 0 ∷ [])) ≡ fails 21 true
unfolding area_fault
no_text_area at = refl

pub data_area : (at at' m : ℕ) → 1 ≤ m → area_of (live_of (text_at at 0 ∷ data_at at' m ∷ [])) ≡ fails 21 true
unfolding area_fault
data_area at at' m some = ap area_of (live_first (data_at at' m) [] (lt-ltb 0 m (omega (arith, some))))
