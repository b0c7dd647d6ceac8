-- Bytes put into words, page by page and segment by segment.
use Rattle.std.proofs.Common.{◌≡◌, ℕ, zero, suc, ◌+◌, ◌-◌, ◌*◌, ◌/◌, ◌%◌, ◌<◌, ◌≤◌, Bool, true, false, ◌&&◌, ◌==◌, nat_lt, nat_le, cond, max, min, List, ◌∷◌, length, get_or, set, drop, replicate, find, refl, sym, ap, ◌∙◌, inl, inr, arith}
use Rattle.std.specs.Option.{option_map_or}
use Rattle.std.proofs.lemmas.List.{get_or-set_same, get_or-set_other, drop_more, drop_all}
use Rattle.std.proofs.lemmas.Bool.{cases_Bool, cases_lt, cases_eq, and_right}
use Rattle.std.proofs.lemmas.Bool.Decides.{nat_tests}
use Rattle.elf_definition.specs.declared.segment.Segment.{Segment}
use Rattle.elf_definition.specs.Segments.{file_end}
use Rattle.elf_definition.specs.Content.{is_in_file, file_byte, stored_byte}
use Rattle.elf_image.specs.PageTable.{byte_in, table_word, table_byte}
use Rattle.run_definition.specs.Words.{lane_of_word}
use Rattle.elf_image.proofs.TableLemmas.{lane_of_zero}

-- one byte is put
pub put_one : (words : List ℕ) (place x byte at j : ℕ) → place ≡ at / 4 → place < length words
    → ((k : ℕ) → k < 4 → lane_of_word x k ≡ cond (k == at % 4) byte (lane_of_word (get_or words place 0) k))
    → byte_in (set words place x) j ≡ cond (j == at) byte (byte_in words j)
put_one words place x byte at j is within lanes =
    elim (cases_eq (j / 4) place) [
      | inl same ↦
          ap (λ w. lane_of_word w (j % 4)) (ap (λ i. get_or (set words place x) i 0) same ∙ get_or-set_same words place x 0 within)
          ∙ lanes (j % 4) (omega arith)
          ∙ ap (λ b. cond b byte (lane_of_word (get_or words place 0) (j % 4))) (tests j at (same ∙ is))
          ∙ ap (λ i. cond (j == at) byte (lane_of_word (get_or words i 0) (j % 4))) (sym same)
      | inr other ↦
          ap (λ w. lane_of_word w (j % 4)) (get_or-set_other words place (j / 4) x 0 other)
          ∙ ap (λ b. cond b byte (byte_in words j)) (sym (apart j at place is other))
    ]
  where
    tests : (j at : ℕ) → j / 4 ≡ at / 4 → (j % 4 == at % 4) ≡ (j == at)
    tests j at same =
        elim (cases_eq j at) [
          | inl eq ↦ let a : (j == at) ≡ true = grind (arith, nat_tests) in let b : (j % 4 == at % 4) ≡ true = grind (arith, nat_tests) in b ∙ sym a
          | inr ne ↦ let a : (j == at) ≡ false = grind (arith, nat_tests) in let b : (j % 4 == at % 4) ≡ false = grind (arith, nat_tests) in b ∙ sym a
        ]

    apart : (j at place : ℕ) → place ≡ at / 4 → (j / 4 ≡ place → ⊥) → (j == at) ≡ false
    apart j at place is other = elim (cases_eq j at) [
      | inl eq ↦ absurd (other (ap (λ n. n / 4) eq ∙ sym is))
      | inr ne ↦ grind (arith, nat_tests)
    ]

nothing : (first j old x : ℕ) → cond (nat_le first j && nat_lt j (first + 0)) x old ≡ old
nothing first j old x = let off : (nat_le first j && nat_lt j (first + 0)) ≡ false = grind (arith, nat_tests) in rw off refl

-- no byte is put yet
pub put_none : (first j old x : ℕ) → old ≡ cond (nat_le first j && nat_lt j (first + 0)) x old
put_none first j old x = sym (nothing first j old x)

-- one byte more
pub put_more : (new now old byte : ℕ) (bytes : List ℕ) (first k j : ℕ) → byte ≡ get_or bytes k 0 → new ≡ cond (j == first + k) byte now
    → now ≡ cond (nat_le first j && nat_lt j (first + k)) (get_or bytes (j - first) 0) old
    → new ≡ cond (nat_le first j && nat_lt j (first + (k + 1))) (get_or bytes (j - first) 0) old
put_more new now old byte bytes first k j is made was =
    elim (cases_eq j (first + k)) [
      | inl same ↦
          let a : (j == first + k) ≡ true = grind (arith, nat_tests) in
          let b : (nat_le first j && nat_lt j (first + (k + 1))) ≡ true = grind (arith, nat_tests) in
          let c : k ≡ j - first = omega (arith, same) in
          made ∙ rw a (rw b (is ∙ ap (λ i. get_or bytes i 0) c))
      | inr other ↦
          let a : (j == first + k) ≡ false = grind (arith, nat_tests) in
          made ∙ rw a (was ∙ ap (λ b. cond b (get_or bytes (j - first) 0) old) (grow first j k other))
    ]
  where
    grow : (first j k : ℕ) → (j ≡ first + k → ⊥) → (nat_le first j && nat_lt j (first + k)) ≡ (nat_le first j && nat_lt j (first + (k + 1)))
    grow first j k other =
        elim (cases_lt j (first + k)) [
          | inl lt ↦
              let a : nat_lt j (first + k) ≡ true = grind (arith, nat_tests) in
              let b : nat_lt j (first + (k + 1)) ≡ true = grind (arith, nat_tests) in
              rw a (rw b refl)
          | inr ge ↦
              let a : nat_lt j (first + k) ≡ false = grind (arith, nat_tests) in
              let b : nat_lt j (first + (k + 1)) ≡ false = grind (arith, nat_tests) in
              rw a (rw b refl)
        ]

-- the byte at an address, in the words of its page
pub table_byte_in : (index words : List ℕ) (at place : ℕ) → get_or index (at / 4096) 0 ≡ place → (place ≡ 0 → ⊥)
    → table_byte index words at ≡ byte_in words (4096 * (place - 1) + at % 4096)
unfolding table_word
table_byte_in index words at place is some =
    let page : at / 4 / 1024 ≡ at / 4096 = omega arith in
    let test : (place == 0) ≡ false = grind (arith, nat_tests) in
    let word : 1024 * (place - 1) + at / 4 % 1024 ≡ (4096 * (place - 1) + at % 4096) / 4 = omega arith in
    let lane : at % 4 ≡ (4096 * (place - 1) + at % 4096) % 4 = omega arith in
    rw page (rw is (rw test (ap (λ i. lane_of_word (get_or words i 0) (at % 4)) word ∙ ap (λ i. lane_of_word (get_or words ((4096 * (place - 1) + at % 4096) / 4) 0) i) lane)))

pub part_low : (v fe a : ℕ) → (nat_le v a && nat_lt a fe) ≡ true → v ≤ a
part_low v fe a on = grind (arith, nat_tests)

pub part_high : (v fe a : ℕ) → (nat_le v a && nat_lt a fe) ≡ true → a < fe
part_high v fe a on = grind (arith, nat_tests)

-- where the bytes of a page go
in_page : (v fe p at n past len : ℕ) → at / 4096 ≡ p → past ≡ max v (4096 * p) - 4096 * p → len ≡ min fe (4096 * p + 4096) - max v (4096 * p)
    → (nat_le (4096 * n + past) (4096 * n + at % 4096) && nat_lt (4096 * n + at % 4096) (4096 * n + past + len)) ≡ (nat_le v at && nat_lt at fe)
in_page v fe p at n past len here is size =
    elim (cases_Bool (nat_le v at && nat_lt at fe)) [
      | inl on ↦ let low = part_low v fe at on in let high = part_high v fe at on in forth low high ∙ sym on
      | inr off ↦ elim (cases_Bool (nat_le (4096 * n + past) (4096 * n + at % 4096) && nat_lt (4096 * n + at % 4096) (4096 * n + past + len))) [
        | inr out ↦ out ∙ sym off
        | inl on ↦
            let low = part_low (4096 * n + past) (4096 * n + past + len) (4096 * n + at % 4096) on in
            let high = part_high (4096 * n + past) (4096 * n + past + len) (4096 * n + at % 4096) on in
            absurd (let both : (nat_le v at && nat_lt at fe) ≡ true = back low high in cc)
      ]
    ]
  where
    forth : v ≤ at → at < fe → (nat_le (4096 * n + past) (4096 * n + at % 4096) && nat_lt (4096 * n + at % 4096) (4096 * n + past + len)) ≡ true
    forth low high = grind (arith, nat_tests)

    back : 4096 * n + past ≤ 4096 * n + at % 4096 → 4096 * n + at % 4096 < 4096 * n + past + len → (nat_le v at && nat_lt at fe) ≡ true
    back low high = grind (arith, nat_tests)

off_page : (v fe p n n' past len r : ℕ) → (n ≡ n' → ⊥) → r < 4096 → past ≡ max v (4096 * p) - 4096 * p → len ≡ min fe (4096 * p + 4096) - max v (4096 * p)
    → (nat_le (4096 * n + past) (4096 * n' + r) && nat_lt (4096 * n' + r) (4096 * n + past + len)) ≡ false
off_page v fe p n n' past len r other lt is size = grind (arith, nat_tests)

-- a page of a segment is put
pub put_page : (file index words words' piece : List ℕ) (s : Segment) (page number past at : ℕ)
    → get_or index page 0 ≡ number → (number ≡ 0 → ⊥)
    → ((p q : ℕ) → get_or index p 0 ≡ get_or index q 0 → (get_or index p 0 ≡ 0 → ⊥) → p ≡ q)
    → past ≡ max s.vaddr (4096 * page) - 4096 * page
    → length piece ≡ min (file_end s) (4096 * page + 4096) - max s.vaddr (4096 * page)
    → ((k : ℕ) → k < length piece → get_or piece k 0 ≡ file_byte file (max s.vaddr (4096 * page) + k) s)
    → ((j : ℕ) → byte_in words' j ≡ cond (nat_le (4096 * (number - 1) + past) j && nat_lt j (4096 * (number - 1) + past + length piece)) (get_or piece (j - (4096 * (number - 1) + past)) 0) (byte_in words j))
    → (get_or index (at / 4096) 0 ≡ 0 → ⊥)
    → table_byte index words' at ≡ cond (is_in_file at s && at / 4096 == page) (file_byte file at s) (table_byte index words at)
put_page file index words words' piece s page number past at is some distinct start size bytes put filled =
    let place = get_or index (at / 4096) 0 in
    let j = 4096 * (place - 1) + at % 4096 in
    table_byte_in index words' at place refl filled ∙ put j ∙
    elim (cases_eq (at / 4096) page) [
      | inl here ↦
          let same : place ≡ number = ap (λ p. get_or index p 0) here ∙ is in
          let on_page : (at / 4096 == page) ≡ true = grind (arith, nat_tests) in
          let inside : (nat_le (4096 * (number - 1) + past) j && nat_lt j (4096 * (number - 1) + past + length piece)) ≡ is_in_file at s =
          ap (λ n. nat_le (4096 * (number - 1) + past) (4096 * (n - 1) + at % 4096) && nat_lt (4096 * (n - 1) + at % 4096) (4096 * (number - 1) + past + length piece)) same
          ∙ in_page s.vaddr (file_end s) page at (number - 1) past (length piece) here start size in
          elim (cases_Bool (is_in_file at s)) [
            | inl on ↦ rw inside (rw on (rw on_page (
                let low = part_low s.vaddr (file_end s) at on in
                let high = part_high s.vaddr (file_end s) at on in
                let facts = moved s.vaddr (file_end s) page at (number - 1) past (length piece) here start size low high in
                ap (λ n. get_or piece (4096 * (n - 1) + at % 4096 - (4096 * (number - 1) + past)) 0) same
                ∙ bytes _ facts.0 ∙ ap (λ a. file_byte file a s) facts.1)))
            | inr off ↦ rw inside (rw off (sym (table_byte_in index words at place refl filled)))
          ]
      | inr other ↦
          let on_page : (at / 4096 == page) ≡ false = grind (arith, nat_tests) in
          let differ : number - 1 ≡ place - 1 → ⊥ = λ e. other (distinct (at / 4096) page (let e' : place ≡ number = omega (arith, e, some, filled) in e' ∙ sym is) filled) in
          let outside : (nat_le (4096 * (number - 1) + past) j && nat_lt j (4096 * (number - 1) + past + length piece)) ≡ false =
          off_page s.vaddr (file_end s) page (number - 1) (place - 1) past (length piece) (at % 4096) differ (omega arith) start size in
          rw outside (rw on_page (rw (and_right (is_in_file at s) false refl) (sym (table_byte_in index words at place refl filled))))
    ]
  where
    moved : (v fe p at n past len : ℕ) → at / 4096 ≡ p → past ≡ max v (4096 * p) - 4096 * p → len ≡ min fe (4096 * p + 4096) - max v (4096 * p) → v ≤ at → at < fe
        → (4096 * n + at % 4096 - (4096 * n + past) < len) × (max v (4096 * p) + (4096 * n + at % 4096 - (4096 * n + past)) ≡ at)
    moved v fe p at n past len here is size low high = (grind arith, grind arith)

-- a page that is not stored
pub skip_page : (file index words : List ℕ) (s : Segment) (page at : ℕ) → get_or index page 0 ≡ 0 → (get_or index (at / 4096) 0 ≡ 0 → ⊥)
    → table_byte index words at ≡ cond (is_in_file at s && at / 4096 == page) (file_byte file at s) (table_byte index words at)
skip_page file index words s page at none filled =
    elim (cases_eq (at / 4096) page) [
      | inl here ↦ absurd (filled (ap (λ p. get_or index p 0) here ∙ none))
      | inr other ↦
          let on_page : (at / 4096 == page) ≡ false = grind (arith, nat_tests) in
          rw on_page (rw (and_right (is_in_file at s) false refl) refl)
    ]

-- one page more of a segment
pub segment_first : (v f at first byte old : ℕ) → first ≡ v / 4096 → old ≡ cond ((nat_le v at && nat_lt at (v + f)) && nat_lt (at / 4096) first) byte old
segment_first v f at first byte old is =
    let off : ((nat_le v at && nat_lt at (v + f)) && nat_lt (at / 4096) first) ≡ false = grind (arith, nat_tests) in rw off refl

pub segment_more : (new now old byte at page : ℕ) (t : Bool) → new ≡ cond (t && at / 4096 == page) byte now → now ≡ cond (t && nat_lt (at / 4096) page) byte old
    → new ≡ cond (t && nat_lt (at / 4096) (page + 1)) byte old
segment_more new now old byte at page false made was = made ∙ was
segment_more new now old byte at page true made was =
    elim (cases_eq (at / 4096) page) [
      | inl same ↦
          let a : (at / 4096 == page) ≡ true = grind (arith, nat_tests) in
          let b : nat_lt (at / 4096) (page + 1) ≡ true = grind (arith, nat_tests) in
          made ∙ rw a (rw b refl)
      | inr other ↦
          let a : (at / 4096 == page) ≡ false = grind (arith, nat_tests) in
          made ∙ rw a (was ∙ ap (λ b. cond b byte old) (grow (at / 4096) page other))
    ]
  where
    grow : (p page : ℕ) → (p ≡ page → ⊥) → nat_lt p page ≡ nat_lt p (page + 1)
    grow p page other =
        elim (cases_lt p page) [
          | inl lt ↦
              let a : nat_lt p page ≡ true = grind (arith, nat_tests) in
              let b : nat_lt p (page + 1) ≡ true = grind (arith, nat_tests) in
              a ∙ sym b
          | inr ge ↦
              let a : nat_lt p page ≡ false = grind (arith, nat_tests) in
              let b : nat_lt p (page + 1) ≡ false = grind (arith, nat_tests) in
              a ∙ sym b
        ]

pub segment_done : (new v f at page byte old : ℕ) → (v + f + 4095) / 4096 ≤ page → new ≡ cond ((nat_le v at && nat_lt at (v + f)) && nat_lt (at / 4096) page) byte old
    → new ≡ cond (nat_le v at && nat_lt at (v + f)) byte old
segment_done new v f at page byte old past was =
    was ∙
    elim (cases_Bool (nat_le v at && nat_lt at (v + f))) [
      | inl on ↦
          let high = part_high v (v + f) at on in
          let a : nat_lt (at / 4096) page ≡ true = grind (arith, nat_tests) in rw on (rw a refl)
      | inr off ↦ rw off refl
    ]

-- no segment is put yet
pub none_put : (file index : List ℕ) (segments : List Segment) (n at count : ℕ) → length segments ≤ n
    → table_byte index (replicate count 0) at ≡ stored_byte file (drop n segments) at
unfolding table_word stored_byte
none_put file index segments n at count past =
    ap (λ w. lane_of_word w (at % 4)) (zeros (get_or index (at / 4 / 1024) 0) (at / 4 % 1024)) ∙ lane_of_zero (at % 4)
    ∙ sym (ap (λ ss. option_map_or (file_byte file at) (find (is_in_file at) ss) 0) (drop_all n segments past))
  where
    zero_at : (n i : ℕ) → ◌≡◌ {A = ℕ} (get_or (replicate n 0) i 0) 0
    zero_at zero i = refl
    zero_at (suc n) zero = refl
    zero_at (suc n) (suc i) = zero_at n i

    zeros : (p k : ℕ) → ◌≡◌ {A = ℕ} (cond (p == 0) 0 (get_or (replicate count 0) (1024 * (p - 1) + k) 0)) 0
    zeros p k =
        elim (cases_eq p 0) [
          | inl none ↦ let test : (p == 0) ≡ true = grind (arith, nat_tests) in rw test refl
          | inr some ↦ let test : (p == 0) ≡ false = grind (arith, nat_tests) in rw test (zero_at count _)
        ]

-- one segment more, which stands before those that are put
pub one_put : (file : List ℕ) (segments : List Segment) (i n at new old : ℕ) (d : Segment) → i < length segments → n ≡ i + 1
    → new ≡ cond (is_in_file at (get_or segments i d)) (file_byte file at (get_or segments i d)) old → old ≡ stored_byte file (drop n segments) at
    → new ≡ stored_byte file (drop i segments) at
unfolding stored_byte
one_put file segments i n at new old d lt next made was =
    made ∙ ap (λ o. cond (is_in_file at (get_or segments i d)) (file_byte file at (get_or segments i d)) o) (was ∙ ap (λ m. option_map_or (file_byte file at) (find (is_in_file at) (drop m segments)) 0) next)
    ∙ go (is_in_file at (get_or segments i d)) refl
    ∙ sym (ap (λ ss. option_map_or (file_byte file at) (find (is_in_file at) ss) 0) (drop_more segments i d lt))
  where
    go : (b : Bool) → is_in_file at (get_or segments i d) ≡ b
        → cond (is_in_file at (get_or segments i d)) (file_byte file at (get_or segments i d)) (option_map_or (file_byte file at) (find (is_in_file at) (drop (i + 1) segments)) 0)
        ≡ option_map_or (file_byte file at) (find (is_in_file at) (get_or segments i d ∷ drop (i + 1) segments)) 0
    go true on = rw on refl
    go false off = rw off refl

-- there is room for the bytes of a page
pub page_room : (v fe p past len n words : ℕ) → v / 4096 ≤ p → past ≡ max v (4096 * p) - 4096 * p → len ≡ min fe (4096 * p + 4096) - max v (4096 * p)
    → (n ≡ 0 → ⊥) → 1024 * n ≤ words → 4096 * (n - 1) + past + len ≤ 4 * words
page_room v fe p past len n words first start size some room =
    let short : past + len ≤ 4096 = within v fe p past len first start size in
    let one : 1 ≤ n = grind arith in
    omega (arith, short, one, room)
  where
    within : (v fe p past len : ℕ) → v / 4096 ≤ p → past ≡ max v (4096 * p) - 4096 * p → len ≡ min fe (4096 * p + 4096) - max v (4096 * p) → past + len ≤ 4096
    within v fe p past len first start size = grind arith
