-- The bytes that segments have in the file, and the pages that these fill.
use Rattle.std.proofs.Common.{◌≡◌, ℕ, zero, suc, ◌+◌, ◌-◌, ◌*◌, ◌/◌, ◌<◌, ◌≤◌, Bool, true, false, ◌&&◌, ◌||◌, not, ◌==◌, nat_lt, nat_le, cond, max, min, List, [], ◌∷◌, length, get_or, find, is_some, Option, Some, None, refl, sym, ap, ◌∙◌, inl, inr, arith}
use Rattle.std.specs.List.{All, AllPairs, list_any}
use Rattle.std.specs.Option.{option_map_or}
use Rattle.std.proofs.lemmas.List.Folds.{list_any_at, list_any_none}
use Rattle.std.proofs.lemmas.Bool.{cases_Bool, and_left, or_right}
use Rattle.std.proofs.lemmas.Bool.Decides.{nat_tests}
use Rattle.elf_definition.specs.declared.segment.Segment.{Segment}
use Rattle.elf_definition.specs.Check.{least_below}
use Rattle.elf_definition.specs.Segments.{IsApart, file_end, segment_end}
use Rattle.elf_reader.specs.Answer.{IsSound}
use Rattle.elf_definition.specs.Pages.{is_segment_page}
use Rattle.elf_definition.specs.Content.{is_in_file, file_byte, stored_byte, is_filled_page, has_data}
use Rattle.elf_image.proofs.TableLemmas.{least_all, not_stored, some_false}
use Rattle.elf_image.proofs.StoreLemmas.{part_low, part_high}
use Rattle.std.proofs.lemmas.Option.{same_Some}

some_below : (test : ℕ → Bool) (n k : ℕ) → k < n → test k ≡ true → is_some (least_below test n) ≡ true
some_below test n k lt on =
    elim (cases_Bool (is_some (least_below test n))) [
      | inl there ↦ there
      | inr none ↦ absurd (let off = least_all test n (some_false (least_below test n) none) k lt in cc)
    ]

all_off : (test : ℕ → Bool) (n : ℕ) → is_some (least_below test n) ≡ false → (k : ℕ) → k < n → test k ≡ false
all_off test n none k lt =
    elim (cases_Bool (test k)) [
      | inl on ↦ absurd (let there = some_below test n k lt on in cc)
      | inr off ↦ off
    ]

none_below : (test : ℕ → Bool) (n : ℕ) → ((k : ℕ) → k < n → test k ≡ false) → is_some (least_below test n) ≡ false
unfolding least_below
none_below test zero all = refl
none_below test (suc n) all =
    rw (all n (omega arith)) (last (least_below test n) (none_below test n (λ k lt. all k (omega (arith, lt)))))
  where
    last : (o : Option ℕ) → is_some o ≡ false → is_some (Rattle.std.specs.Option.option_or o (cond false (Some n) None)) ≡ false
    last None e = refl
    last (Some x) e = absurd (cc)

is_in : (v fe a : ℕ) → v ≤ a → a < fe → (nat_le v a && nat_lt a fe) ≡ true
is_in v fe a low high = grind (arith, nat_tests)

zero_byte : (t : Bool) (b : ℕ) → t ≡ true → (t && not (b == 0)) ≡ false → not (b == 0) ≡ false
zero_byte true b on off = off
zero_byte false b on off = absurd (cc)

-- a page holds data of a segment exactly where the slice of the file for it is not all zero
pub data_of : (file piece : List ℕ) (s : Segment) (page : ℕ) → length piece ≡ min (file_end s) (4096 * page + 4096) - max s.vaddr (4096 * page)
    → ((k : ℕ) → k < length piece → get_or piece k 0 ≡ file_byte file (max s.vaddr (4096 * page) + k) s)
    → list_any (λ b. not (b == 0)) piece ≡ has_data file page s
unfolding has_data
data_of file piece s page size bytes =
    elim (cases_Bool (is_some (least_below test 4096))) [
      | inl on ↦ elim (cases_Bool (list_any (λ b. not (b == 0)) piece)) [
        | inl any ↦ any ∙ sym on
        | inr none ↦ absurd (let off = none_below test 4096 (λ k lt. zeros k lt none) in cc)
      ]
      | inr off ↦ list_any_none (λ b. not (b == 0)) piece (λ k d lt. zero_at k d lt (all_off test 4096 off)) ∙ sym off
    ]
  where
    test : ℕ → Bool
    test k = is_in_file (4096 * page + k) s && not (file_byte file (4096 * page + k) s == 0)

    at_k : (k : ℕ) → k < length piece → max s.vaddr (4096 * page) + k ≡ 4096 * page + (max s.vaddr (4096 * page) + k - 4096 * page)
    at_k k lt = omega arith

    within_page : (v fe p k : ℕ) → k < min fe (4096 * p + 4096) - max v (4096 * p) → (max v (4096 * p) + k - 4096 * p < 4096) × (v ≤ max v (4096 * p) + k) × (max v (4096 * p) + k < fe)
    within_page v fe p k lt = (grind arith, grind arith, grind arith)

    get_default : (xs : List ℕ) (k d : ℕ) → k < length xs → get_or xs k d ≡ get_or xs k 0
    get_default [] k d lt = absurd (omega (arith, lt))
    get_default (x ∷ xs) zero d lt = refl
    get_default (x ∷ xs) (suc k) d lt = get_default xs k d (omega (arith, lt))

    zero_at : (k d : ℕ) → k < length piece → ((j : ℕ) → j < 4096 → test j ≡ false) → not (get_or piece k d == 0) ≡ false
    zero_at k d lt off =
        let a = max s.vaddr (4096 * page) + k in
        let facts = within_page s.vaddr (file_end s) page k (omega (arith, lt, size)) in
        let here : 4096 * page + (a - 4096 * page) ≡ a = sym (at_k k lt) in
        let no : (is_in_file a s && not (file_byte file a s == 0)) ≡ false = ap (λ x. is_in_file x s && not (file_byte file x s == 0)) (sym here) ∙ off (a - 4096 * page) facts.0 in
        ap (λ b. not (b == 0)) (get_default piece k d lt ∙ bytes k lt) ∙ zero_byte (is_in_file a s) (file_byte file a s) (is_in s.vaddr (file_end s) a facts.1 facts.2) no

    place_lt : (v fe p k len : ℕ) → v ≤ 4096 * p + k → 4096 * p + k < fe → k < 4096 → len ≡ min fe (4096 * p + 4096) - max v (4096 * p)
        → (4096 * p + k - max v (4096 * p) < len) × (max v (4096 * p) + (4096 * p + k - max v (4096 * p)) ≡ 4096 * p + k)
    place_lt v fe p k len a b c e = (grind arith, grind arith)

    zeros : (k : ℕ) → k < 4096 → list_any (λ b. not (b == 0)) piece ≡ false → test k ≡ false
    zeros k lt none =
        elim (cases_Bool (is_in_file (4096 * page + k) s)) [
          | inr out ↦ and_left (is_in_file (4096 * page + k) s) (not (file_byte file (4096 * page + k) s == 0)) out
          | inl on ↦
              let a = 4096 * page + k in
              let j = a - max s.vaddr (4096 * page) in
              let facts = place_lt s.vaddr (file_end s) page k (length piece) (part_low s.vaddr (file_end s) a on) (part_high s.vaddr (file_end s) a on) lt size in
              elim (cases_Bool (not (get_or piece j 0 == 0))) [
                | inl some ↦ absurd (let any = list_any_at (λ b. not (b == 0)) piece j 0 facts.0 some in cc)
                | inr nil ↦
                    let byte : get_or piece j 0 ≡ file_byte file a s = bytes j facts.0 ∙ ap (λ x. file_byte file x s) facts.1 in
                    rw on (rw (← byte) nil)
              ]
        ]

met : (v e v' e' at : ℕ) → v ≤ at → at < e → v' ≤ at → at < e' → nat_lt (max v v') (min e e') ≡ true
met v e v' e' at a b c d = grind (arith, nat_tests)

part : (len at : ℕ) (s : Segment) → IsSound len s → is_in_file at s ≡ true → (s.vaddr ≤ at) × (at < segment_end s)
part len at s sound on = go s.vaddr s.filesz s.memsz at sound.sizes on
  where
    go : (v f m at : ℕ) → f ≤ m → (nat_le v at && nat_lt at (v + f)) ≡ true → (v ≤ at) × (at < v + m)
    go v f m at sizes on = (grind (arith, nat_tests), grind (arith, nat_tests))

-- two segments that are apart do not both have an address
not_both : (len at : ℕ) (s t : Segment) → IsSound len s → IsSound len t → IsApart s t → is_in_file at t ≡ true → is_in_file at s ≡ false
not_both len at s t sound sound' apart on' =
    elim (cases_Bool (is_in_file at s)) [
      | inr off ↦ off
      | inl on ↦ absurd (
          let a = part len at s sound on in
          let b = part len at t sound' on' in
          let both = met s.vaddr (segment_end s) t.vaddr (segment_end t) at a.0 a.1 b.0 b.1 in
          cc)
    ]

-- a segment that has an address is the one that is found
pub found : (len at : ℕ) (segments : List Segment) (i : ℕ) (d : Segment) → All (IsSound len) segments → AllPairs IsApart segments → i < length segments
    → is_in_file at (get_or segments i d) ≡ true → find (is_in_file at) segments ≡ Some (get_or segments i d)
found len at [] i d sound apart lt on = absurd (omega (arith, lt))
found len at (s ∷ rest) zero d sound apart lt on = rw on refl
found len at (s ∷ rest) (suc i) d sound apart lt on =
    let off = not_both len at s (get_or rest i d) (sound 0 d (omega arith)) (sound (suc i) d lt) (apart 0 (suc i) d (omega arith) lt) on in
    rw off (found len at rest i d (λ k d' within. sound (suc k) d' (omega (arith, within))) (λ j k d' less within. apart (suc j) (suc k) d' (omega (arith, less)) (omega (arith, within))) (omega (arith, lt)) on)

stored_found : (len at : ℕ) (file : List ℕ) (segments : List Segment) (i : ℕ) (d : Segment) → All (IsSound len) segments → AllPairs IsApart segments → i < length segments
    → is_in_file at (get_or segments i d) ≡ true → stored_byte file segments at ≡ file_byte file at (get_or segments i d)
unfolding stored_byte
stored_found len at file segments i d sound apart lt on = ap (λ o. option_map_or (file_byte file at) o 0) (found len at segments i d sound apart lt on)

find_passes : {X : Type 0} (p : X → Bool) (xs : List X) (x : X) → find p xs ≡ Some x → p x ≡ true
find_passes p [] x e = absurd (cc)
find_passes p (y ∷ ys) x e =
    elim (cases_Bool (p y)) [
      | inl on ↦ let same : Some y ≡ Some x = rw on at e in ap p (sym (same_Some y x same)) ∙ on
      | inr off ↦ let rest : find p ys ≡ Some x = rw off at e in find_passes p ys x rest
    ]

find_any : {X : Type 0} (p q : X → Bool) (xs : List X) (x : X) → find p xs ≡ Some x → q x ≡ true → list_any q xs ≡ true
find_any p q [] x e on = absurd (cc)
find_any p q (y ∷ ys) x e on =
    elim (cases_Bool (p y)) [
      | inl there ↦ let same : Some y ≡ Some x = rw there at e in ap (λ b. b || list_any q ys) (ap q (same_Some y x same) ∙ on)
      | inr off ↦ let rest : find p ys ≡ Some x = rw off at e in or_right (q y) (list_any q ys) (find_any p q ys x rest on)
    ]

nil_test : not (0 == 0) ≡ true → ⊥
nil_test on = absurd (cc)

-- a byte that is not 0 is one of a segment's
stored_part : (file : List ℕ) (segments : List Segment) (at : ℕ) (q : Segment → Bool) → not (stored_byte file segments at == 0) ≡ true
    → ((s : Segment) → is_in_file at s ≡ true → not (file_byte file at s == 0) ≡ true → q s ≡ true) → list_any q segments ≡ true
unfolding stored_byte
stored_part file segments at q some each = go (find (is_in_file at) segments) refl some
  where
    go : (o : Option Segment) → find (is_in_file at) segments ≡ o → not (option_map_or (file_byte file at) o 0 == 0) ≡ true → list_any q segments ≡ true
    go None is on = absurd (nil_test on)
    go (Some s) is on = find_any (is_in_file at) q segments s is (each s (find_passes (is_in_file at) segments s is) on)

data_some : (file : List ℕ) (page : ℕ) (s : Segment) (k : ℕ) → k < 4096 → is_in_file (4096 * page + k) s ≡ true → not (file_byte file (4096 * page + k) s == 0) ≡ true
    → has_data file page s ≡ true
unfolding has_data
data_some file page s k lt on some =
    some_below (λ k. is_in_file (4096 * page + k) s && not (file_byte file (4096 * page + k) s == 0)) 4096 k lt (rw on some)

data_none : (file : List ℕ) (page : ℕ) (s : Segment)
    → ((k : ℕ) → k < 4096 → (is_in_file (4096 * page + k) s && not (file_byte file (4096 * page + k) s == 0)) ≡ false) → has_data file page s ≡ false
unfolding has_data
data_none file page s off = none_below (λ k. is_in_file (4096 * page + k) s && not (file_byte file (4096 * page + k) s == 0)) 4096 off

zero_test : (b : ℕ) → b ≡ 0 → not (b == 0) ≡ false
zero_test b e = grind (arith, nat_tests)

-- a page with a byte that is not 0 is one of a segment's
filled_is : (len : ℕ) (file : List ℕ) (segments : List Segment) (page : ℕ) → All (IsSound len) segments
    → is_filled_page file segments page ≡ is_some (least_below (λ k. not (stored_byte file segments (4096 * page + k) == 0)) 4096)
unfolding is_filled_page
filled_is len file segments page sound =
    elim (cases_Bool (is_segment_page segments page)) [
      | inl on ↦ rw on refl
      | inr off ↦ rw off (sym (none_below (λ k. not (stored_byte file segments (4096 * page + k) == 0)) 4096
          (λ k lt. zero_test _ (not_stored len file segments (4096 * page + k) sound
          (ap (is_segment_page segments) (let place : (4096 * page + k) / 4096 ≡ page = omega (arith, lt) in place) ∙ off)))))
    ]

-- a page of the segments is filled exactly where it holds data of one of them
pub filled_any : (len : ℕ) (file : List ℕ) (segments : List Segment) (page : ℕ) → All (IsSound len) segments → AllPairs IsApart segments
    → list_any (λ s. has_data file page s) segments ≡ is_filled_page file segments page
filled_any len file segments page sound apart =
    elim (cases_Bool (is_some (least_below (λ k. not (stored_byte file segments (4096 * page + k) == 0)) 4096))) [
      | inr off ↦
          list_any_none (λ s. has_data file page s) segments
          (λ i d lt. data_none file page (get_or segments i d) (λ k within. no_data i d k lt (all_off (λ k. not (stored_byte file segments (4096 * page + k) == 0)) 4096 off k within)))
          ∙ sym off ∙ sym (filled_is len file segments page sound)
      | inl on ↦ elim (cases_Bool (list_any (λ s. has_data file page s) segments)) [
        | inl any ↦ any ∙ sym on ∙ sym (filled_is len file segments page sound)
        | inr none ↦ absurd (let empty = none_below (λ k. not (stored_byte file segments (4096 * page + k) == 0)) 4096 (λ k within. no_byte k within none) in cc)
      ]
    ]
  where
    no_data : (i : ℕ) (d : Segment) (k : ℕ) → i < length segments → not (stored_byte file segments (4096 * page + k) == 0) ≡ false
        → (is_in_file (4096 * page + k) (get_or segments i d) && not (file_byte file (4096 * page + k) (get_or segments i d) == 0)) ≡ false
    no_data i d k lt off =
        elim (cases_Bool (is_in_file (4096 * page + k) (get_or segments i d))) [
          | inr out ↦ and_left (is_in_file (4096 * page + k) (get_or segments i d)) (not (file_byte file (4096 * page + k) (get_or segments i d) == 0)) out
          | inl on ↦
              let byte = stored_found len (4096 * page + k) file segments i d sound apart lt on in
              rw on (ap (λ b. not (b == 0)) (sym byte) ∙ off)
        ]

    no_byte : (k : ℕ) → k < 4096 → list_any (λ s. has_data file page s) segments ≡ false → not (stored_byte file segments (4096 * page + k) == 0) ≡ false
    no_byte k within none =
        elim (cases_Bool (not (stored_byte file segments (4096 * page + k) == 0))) [
          | inr nil ↦ nil
          | inl some ↦ absurd (let any = stored_part file segments (4096 * page + k) (λ s. has_data file page s) some (λ s on byte. data_some file page s k within on byte) in cc)
        ]

low_data : (p v f k : ℕ) → p < v / 4096 → k < 4096 → (nat_le v (4096 * p + k) && nat_lt (4096 * p + k) (v + f)) ≡ false
low_data p v f k lt within = grind (arith, nat_tests)

high_data : (p v f k : ℕ) → (v + f + 4095) / 4096 ≤ p → (nat_le v (4096 * p + k) && nat_lt (4096 * p + k) (v + f)) ≡ false
high_data p v f k ge = grind (arith, nat_tests)

pub before_data : (file : List ℕ) (p : ℕ) (s : Segment) → p < s.vaddr / 4096 → has_data file p s ≡ false
before_data file p s lt = data_none file p s (λ k within. and_left (is_in_file (4096 * p + k) s) (not (file_byte file (4096 * p + k) s == 0)) (low_data p s.vaddr s.filesz k lt within))

pub behind_data : (file : List ℕ) (p : ℕ) (s : Segment) → (file_end s + 4095) / 4096 ≤ p → has_data file p s ≡ false
behind_data file p s ge = data_none file p s (λ k within. and_left (is_in_file (4096 * p + k) s) (not (file_byte file (4096 * p + k) s == 0)) (high_data p s.vaddr s.filesz k ge))
