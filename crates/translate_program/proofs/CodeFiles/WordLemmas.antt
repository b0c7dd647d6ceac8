-- The words at all places are those of all ranges.
use Rattle.std.proofs.Common.{◌≡◌, ℕ, zero, suc, ◌+◌, ◌-◌, ◌*◌, ◌≤◌, List, [], ◌∷◌, ◌++◌, length, take, drop, map, flat_map, refl, ap, sym, ◌∙◌, arith, inl, inr}
use Rattle.std.specs.Prelude.{min}
use Rattle.std.specs.List.{range_with_len}
use Rattle.std.proofs.lemmas.Bool.{cases_lt}
use Rattle.std.proofs.lemmas.List.{map-append}
use Rattle.std.proofs.lemmas.List.Concat.{flat_map-append}
use Rattle.std.proofs.lemmas.List.FromFn.{length-range_with_len}
use Rattle.elf_definition.specs.declared.range.Range.{Range}
use Rattle.method_splitter.specs.Shares.{share_at, share_count, shared}
use Rattle.method_splitter.proofs.ShareLemmas.{all_shares}
use Rattle.translate_program.specs.Places.{class_words, place_at, places_in, places_of, word_at, words_in, words_at}

take-range : (k a n : ℕ) → k ≤ n → take k (range_with_len a n) ≡ range_with_len a k
take-range zero a n less = refl
take-range (suc k) a zero less = absurd (omega (arith, less))
take-range (suc k) a (suc n) less = ap (λ l. a ∷ l) (take-range k (a + 1) n (omega (arith, less)))

drop-range : (k a n : ℕ) → k ≤ n → drop k (range_with_len a n) ≡ range_with_len (a + k) (n - k)
drop-range zero a n less =
    let first : a ≡ a + 0 = omega arith in
    let count : n ≡ n - 0 = omega arith in
    ap (λ b. range_with_len b n) first ∙ ap (range_with_len (a + 0)) count
drop-range (suc k) a zero less = absurd (omega (arith, less))
drop-range (suc k) a (suc n) less =
    let first : a + 1 + k ≡ a + suc k = omega arith in
    let count : n - k ≡ suc n - suc k = omega arith in
    drop-range k (a + 1) n (omega (arith, less)) ∙ ap (λ b. range_with_len b (n - k)) first ∙ ap (range_with_len (a + suc k)) count

-- the numbers in a share
share-range : (size n k : ℕ)
    → range_with_len (size * k) (min size (n - size * k)) ≡ take (min size (n - size * k)) (drop (size * k) (range_with_len 0 n))
share-range size n k = elim (cases_lt n (size * k)) [
  | inl behind ↦
      let none : min size (n - size * k) ≡ 0 = omega (arith, behind) in
      ap (range_with_len (size * k)) none ∙ sym (ap (λ c. take c (drop (size * k) (range_with_len 0 n))) none)
  | inr within ↦
      let first : 0 + size * k ≡ size * k = omega arith in
      sym
      (ap (take (min size (n - size * k)))
      (drop-range (size * k) 0 n within ∙ ap (λ a. range_with_len a (n - size * k)) first)
      ∙ take-range (min size (n - size * k)) (size * k) (n - size * k) (omega arith))
]

-- the words at the places of some numbers are those in their shares
words-shared : (range : Range) (ks : List ℕ)
    → flat_map words_at (map (place_at range) ks)
    ≡ map (word_at range) (flat_map (shared (range_with_len 0 range.words)) (map (share_at class_words range.words) ks))
words-shared range [] = refl
words-shared range (k ∷ ks) =
    let numbers = range_with_len 0 range.words in
    let others = flat_map (shared numbers) (map (share_at class_words range.words) ks) in
    ap (λ l. map (word_at range) l ++ flat_map words_at (map (place_at range) ks)) (share-range class_words range.words k)
    ∙ ap (λ l. map (word_at range) (shared numbers (share_at class_words range.words k)) ++ l) (words-shared range ks)
    ∙ sym (map-append (word_at range) (shared numbers (share_at class_words range.words k)) others)

range-words : (range : Range) → flat_map words_at (places_in range) ≡ words_in range
range-words range =
    let numbers = range_with_len 0 range.words in
    let count : length numbers ≡ range.words = length-range_with_len 0 range.words in
    words-shared range (range_with_len 0 (share_count class_words range.words))
    ∙ ap (λ n. map (word_at range) (flat_map (shared numbers) (map (share_at class_words n) (range_with_len 0 (share_count class_words n)))))
    (sym count)
    ∙ ap (map (word_at range)) (all_shares class_words numbers (omega arith))

pub all-words : (ranges : List Range) → flat_map words_at (places_of ranges) ≡ flat_map words_in ranges
all-words [] = refl
all-words (range ∷ ranges) =
    flat_map-append words_at (places_in range) (places_of ranges)
    ∙ ap (λ l. l ++ flat_map words_at (places_of ranges)) (range-words range)
    ∙ ap (λ l. words_in range ++ l) (all-words ranges)
