-- The table of pages, made page by page.
use Rattle.std.proofs.Common.{◌≡◌, ℕ, zero, suc, ◌+◌, ◌-◌, ◌*◌, ◌/◌, ◌%◌, ◌^◌, ◌<◌, ◌≤◌, Bool, true, false, ◌&&◌, not, ◌==◌, nat_lt, nat_le, cond, max, min, List, [], ◌∷◌, length, get_or, take, drop, find, is_some, Option, Some, None, refl, sym, ap, ◌∙◌, inl, inr, arith}
use Rattle.std.specs.List.{All}
use Rattle.std.specs.Option.{option_or, option_map_or}
use Rattle.std.proofs.lemmas.List.{get_or-take, get_or-drop}
use Rattle.std.proofs.lemmas.List.Folds.{list_any_at}
use Rattle.std.proofs.lemmas.Bool.{cases_Bool, cases_lt, cases_eq}
use Rattle.std.proofs.lemmas.Bool.Decides.{nat_tests}
use Rattle.elf_definition.specs.declared.segment.Segment.{Segment}
use Rattle.elf_definition.specs.Check.{least_below}
use Rattle.elf_reader.specs.Answer.{IsSound}
use Rattle.elf_definition.specs.Pages.{is_on_page, is_segment_page, count_below}
use Rattle.elf_definition.specs.Content.{is_in_file, file_byte, stored_byte, stored_word, is_filled_page}
use Rattle.elf_image.specs.PageTable.{marked, number_of, table_word, table_byte}
use Rattle.run_definition.specs.Words.{word_of_bytes, lane_of_word}
use Rattle.nv_words.proofs.LaneLemmas.{lane_of_word-of_bytes, below_four, same_lanes}

find_none : {X : Type 0} (p : X → Bool) (xs : List X) → All (λ x. p x ≡ false) xs → find p xs ≡ None
find_none p [] none = refl
find_none p (x ∷ xs) none = rw (none 0 x (omega arith)) (find_none p xs (λ k d within. none (suc k) d (omega (arith, within))))

on_page : (v f m at : ℕ) → f ≤ m → (nat_le v at && nat_lt at (v + f)) ≡ true
    → (v ≤ at) × (at < v + m) × (4096 * (at / 4096) ≤ at) × (at < 4096 * (at / 4096) + 4096)
on_page v f m at sizes in_file =
    let low : v ≤ at = grind (arith, nat_tests) in
    let high : at < v + f = grind (arith, nat_tests) in
    (low, omega (arith, high, sizes), omega arith, omega arith)

part_on_page : (len at : ℕ) (s : Segment) → IsSound len s → is_in_file at s ≡ true → is_on_page (at / 4096) s ≡ true
part_on_page len at s sound in_file =
    let facts = on_page s.vaddr s.filesz s.memsz at sound.sizes in_file in
    meets s.vaddr (s.vaddr + s.memsz) (4096 * (at / 4096)) at facts.0 facts.1 facts.2 facts.3
  where
    meets : (v e p at : ℕ) → v ≤ at → at < e → p ≤ at → at < p + 4096 → nat_lt (max v p) (min e (p + 4096)) ≡ true
    meets v e p at a b c d = grind (arith, nat_tests)

-- outside the pages of the segments no byte of the file is stored
pub not_stored : (len : ℕ) (file : List ℕ) (segments : List Segment) (at : ℕ) → All (IsSound len) segments
    → is_segment_page segments (at / 4096) ≡ false → stored_byte file segments at ≡ 0
unfolding stored_byte is_segment_page
not_stored len file segments at sound off =
    ap (λ o. option_map_or (file_byte file at) o 0) (find_none (is_in_file at) segments (λ k d within. outside k d within))
  where
    outside : (k : ℕ) (d : Segment) → k < length segments → is_in_file at (get_or segments k d) ≡ false
    outside k d within = elim (cases_Bool (is_in_file at (get_or segments k d))) [
      | inl on ↦ absurd (let met = list_any_at (is_on_page (at / 4096)) segments k d within (part_on_page len at (get_or segments k d) (sound k d within) on) in cc)
      | inr past ↦ past
    ]

-- each lane of 0 is 0
pub lane_of_zero : (i : ℕ) → lane_of_word 0 i ≡ 0
lane_of_zero i = none (24 - 8 * i)
  where
    none : (e : ℕ) → 0 / 2 ^ e % 2 ^ 8 ≡ 0
    none e = omega arith

pub some_false : (o : Option ℕ) → is_some o ≡ false → o ≡ None
some_false None e = refl
some_false (Some x) e = absurd (cc)

pub or_none : (a b : Option ℕ) → option_or a b ≡ None → (a ≡ None) × (b ≡ None)
or_none None b e = (refl, e)
or_none (Some x) b e = absurd (cc)

here_none : (b : Bool) (n : ℕ) → cond b (Some n) None ≡ None → b ≡ false
here_none true n e = absurd (cc)
here_none false n e = refl

pub least_all : (test : ℕ → Bool) (n : ℕ) → least_below test n ≡ None → (k : ℕ) → k < n → test k ≡ false
unfolding least_below
least_all test zero none k within = absurd (omega (arith, within))
least_all test (suc n) none k within =
    let both = or_none (least_below test n) (cond (test n) (Some n) None) none in
    elim (cases_lt k n) [
      | inl lt ↦ least_all test n both.0 k lt
      | inr ge ↦ let same : k ≡ n = omega (arith, ge, within) in rw same (here_none (test n) n both.1)
    ]

is_zero : (n : ℕ) → not (n == 0) ≡ false → n ≡ 0
is_zero n e = grind (arith, nat_tests)

-- a page that is not filled is all zero
pub not_filled : (len : ℕ) (file : List ℕ) (segments : List Segment) (page at : ℕ) → All (IsSound len) segments
    → is_filled_page file segments page ≡ false → at / 4096 ≡ page → stored_byte file segments at ≡ 0
unfolding is_filled_page
not_filled len file segments page at sound off here =
    elim (cases_Bool (is_segment_page segments page)) [
      | inl on ↦
          let none : is_some (least_below (λ k. not (stored_byte file segments (4096 * page + k) == 0)) 4096) ≡ false = rw on at off in
          let all = least_all (λ k. not (stored_byte file segments (4096 * page + k) == 0)) 4096 (some_false _ none) (at % 4096) (omega arith) in
          let place : at ≡ 4096 * page + at % 4096 = omega (arith, here) in
          ap (stored_byte file segments) place ∙ is_zero _ all
      | inr out ↦ not_stored len file segments at sound (ap (is_segment_page segments) here ∙ out)
    ]

option_lt : (file : List ℕ) (at : ℕ) (o : Option Segment) → ((i : ℕ) → get_or file i 0 < 2 ^ 8) → option_map_or (file_byte file at) o 0 < 2 ^ 8
option_lt file at None fits = omega arith
option_lt file at (Some s) fits = fits _

-- a byte of the segments is a byte
pub stored_byte-lt : (file : List ℕ) (segments : List Segment) (at : ℕ) → ((i : ℕ) → get_or file i 0 < 2 ^ 8) → stored_byte file segments at < 2 ^ 8
unfolding stored_byte
stored_byte-lt file segments at fits = option_lt file at (find (is_in_file at) segments) fits

lane_of_stored : (file : List ℕ) (segments : List Segment) → ((i : ℕ) → get_or file i 0 < 2 ^ 8) → (at i : ℕ) → i < 4
    → lane_of_word (stored_word file segments at) i ≡ stored_byte file segments (at + i)
unfolding stored_word
lane_of_stored file segments fits at i lt =
    let lanes = lane_of_word-of_bytes (stored_byte file segments at) (stored_byte file segments (at + 1)) (stored_byte file segments (at + 2)) (stored_byte file segments (at + 3))
    (stored_byte-lt file segments at fits) (stored_byte-lt file segments (at + 1) fits) (stored_byte-lt file segments (at + 2) fits) (stored_byte-lt file segments (at + 3) fits) in
    below_four (λ i. lane_of_word (word_of_bytes (stored_byte file segments at) (stored_byte file segments (at + 1)) (stored_byte file segments (at + 2)) (stored_byte file segments (at + 3))) i ≡ stored_byte file segments (at + i))
    (lanes.0 ∙ ap (stored_byte file segments) (let e : at ≡ at + 0 = omega arith in e)) lanes.1 lanes.2 lanes.3 i lt

-- the words of a page that is stored
pub page_at : (index stored : List ℕ) (page place n k : ℕ) → get_or index page 0 ≡ place → (place ≡ 0 → ⊥) → n ≡ 1024 → k < 1024
    → get_or (take n (drop (1024 * (place - 1)) stored)) k 0 ≡ table_word index stored (1024 * page + k)
unfolding table_word
page_at index stored page place n k is filled size lt =
    let here : (1024 * page + k) / 1024 ≡ page = omega (arith, lt) in
    let rest : (1024 * page + k) % 1024 ≡ k = omega (arith, lt) in
    let some : (place == 0) ≡ false = grind (arith, nat_tests) in
    rw here (rw rest (rw is (rw some
    (get_or-take n (drop (1024 * (place - 1)) stored) k 0 (omega (arith, lt, size)) ∙ get_or-drop (1024 * (place - 1)) stored k 0))))

number_test : (test : ℕ → Bool) (p : ℕ) → not (number_of test p == 0) ≡ test p
number_test test p =
    elim (cases_Bool (test p)) [
      | inl on ↦ rw on (more (count_below test p))
      | inr off ↦ rw off refl
    ]
  where
    more : (n : ℕ) → not (n + 1 == 0) ≡ true
    more n = grind (arith, nat_tests)

-- the pages with an index are those that are filled
pub index_filled : (file : List ℕ) (segments : List Segment) (index : List ℕ) (marks : List Bool)
    → ((p : ℕ) → get_or index p 0 ≡ number_of (marked marks) p) → ((p : ℕ) → marked marks p ≡ is_filled_page file segments p)
    → (p : ℕ) → not (get_or index p 0 == 0) ≡ is_filled_page file segments p
index_filled file segments index marks numbers filled p =
    ap (λ n. not (n == 0)) (numbers p) ∙ number_test (marked marks) p ∙ filled p

zero_entry : (index stored : List ℕ) (k : ℕ) → get_or index (k / 1024) 0 ≡ 0 → table_word index stored k ≡ 0
unfolding table_word
zero_entry index stored k none = rw none refl

-- the byte at each address
pub all_bytes : (len : ℕ) (file : List ℕ) (segments : List Segment) (index stored : List ℕ) → All (IsSound len) segments
    → ((p : ℕ) → not (get_or index p 0 == 0) ≡ is_filled_page file segments p)
    → ((at : ℕ) → (get_or index (at / 4096) 0 ≡ 0 → ⊥) → table_byte index stored at ≡ stored_byte file segments at)
    → (at : ℕ) → table_byte index stored at ≡ stored_byte file segments at
all_bytes len file segments index stored sound filled bytes at =
    elim (cases_eq (get_or index (at / 4096) 0) 0) [
      | inr some ↦ bytes at some
      | inl none ↦
          let off : is_filled_page file segments (at / 4096) ≡ false = sym (filled (at / 4096)) ∙ ap (λ n. not (n == 0)) none in
          let place : at / 4 / 1024 ≡ at / 4096 = omega arith in
          ap (λ w. lane_of_word w (at % 4)) (zero_entry index stored (at / 4) (ap (λ p. get_or index p 0) place ∙ none)) ∙ lane_of_zero (at % 4)
          ∙ sym (not_filled len file segments (at / 4096) at sound off refl)
    ]

pub table_word-lt : (index stored : List ℕ) (k : ℕ) → ((i : ℕ) → get_or stored i 0 < 2 ^ 32) → table_word index stored k < 2 ^ 32
unfolding table_word
table_word-lt index stored k fits = go (get_or index (k / 1024) 0)
  where
    go : (p : ℕ) → cond (p == 0) 0 (get_or stored (1024 * (p - 1) + k % 1024) 0) < 2 ^ 32
    go p =
        elim (cases_eq p 0) [
          | inl none ↦ let test : (p == 0) ≡ true = grind (arith, nat_tests) in rw test (omega arith)
          | inr some ↦ let test : (p == 0) ≡ false = grind (arith, nat_tests) in rw test (fits _)
        ]

word_lt : (a b c d : ℕ) → a < 2 ^ 8 → b < 2 ^ 8 → c < 2 ^ 8 → d < 2 ^ 8 → word_of_bytes a b c d < 2 ^ 32
word_lt a b c d ha hb hc hd = omega (arith, ha, hb, hc, hd)

stored_word-lt : (file : List ℕ) (segments : List Segment) (at : ℕ) → ((i : ℕ) → get_or file i 0 < 2 ^ 8) → stored_word file segments at < 2 ^ 32
unfolding stored_word
stored_word-lt file segments at fits =
    word_lt _ _ _ _ (stored_byte-lt file segments at fits) (stored_byte-lt file segments (at + 1) fits) (stored_byte-lt file segments (at + 2) fits) (stored_byte-lt file segments (at + 3) fits)

-- where the bytes are right, so are the words
pub all_words : (file : List ℕ) (segments : List Segment) (index stored : List ℕ) → ((i : ℕ) → get_or file i 0 < 2 ^ 8) → ((i : ℕ) → get_or stored i 0 < 2 ^ 32)
    → ((at : ℕ) → table_byte index stored at ≡ stored_byte file segments at)
    → (k : ℕ) → table_word index stored k ≡ stored_word file segments (4 * k)
all_words file segments index stored fits small bytes k =
    same_lanes (table_word index stored k) (stored_word file segments (4 * k)) (table_word-lt index stored k small) (stored_word-lt file segments (4 * k) fits)
    (λ i lt.
    let place : (4 * k + i) / 4 ≡ k = omega (arith, lt) in
    let lane : (4 * k + i) % 4 ≡ i = omega (arith, lt) in
    ap (λ w. lane_of_word (table_word index stored w) i) (sym place) ∙ ap (λ j. lane_of_word (table_word index stored ((4 * k + i) / 4)) j) (sym lane)
    ∙ bytes (4 * k + i) ∙ sym (lane_of_stored file segments fits (4 * k) i lt))

pub word_at : (file : List ℕ) (segments : List Segment) (index stored : List ℕ) (at : ℕ) → at % 4 ≡ 0
    → ((k : ℕ) → table_word index stored k ≡ stored_word file segments (4 * k)) → table_word index stored (at / 4) ≡ stored_word file segments at
word_at file segments index stored at even words =
    words (at / 4) ∙ ap (stored_word file segments) (let place : 4 * (at / 4) ≡ at = omega (arith, even) in place)

-- the words of a page that is stored, in the file
pub page_words : (file : List ℕ) (segments : List Segment) (index stored : List ℕ) (page place n k : ℕ) → get_or index page 0 ≡ place → (place ≡ 0 → ⊥) → n ≡ 1024 → k < 1024
    → ((k : ℕ) → table_word index stored k ≡ stored_word file segments (4 * k))
    → get_or (take n (drop (1024 * (place - 1)) stored)) k 0 ≡ stored_word file segments (4096 * page + 4 * k)
page_words file segments index stored page place n k is some size lt words =
    page_at index stored page place n k is some size lt ∙ words (1024 * page + k)
    ∙ ap (stored_word file segments) (let at : 4 * (1024 * page + k) ≡ 4096 * page + 4 * k = omega arith in at)
