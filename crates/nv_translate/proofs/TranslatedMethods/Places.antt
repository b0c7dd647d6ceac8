-- The places of words in ranges: whole ranges' shares, which rise.
use Rattle.std.proofs.Common.{◌≡◌, ℕ, zero, suc, ◌+◌, ◌-◌, ◌*◌, ◌<◌, ◌≤◌, ◌⊎◌, inl, inr, List, [], ◌∷◌, ◌++◌, map, length, get_or, Option, refl, ap, subst, ◌∙◌, arith}
use Rattle.std.specs.Prelude.{⊤}
use Rattle.std.specs.List.{range_with_len, AllByRecursion, AllAdjacentBelow}
use Rattle.std.proofs.lemmas.List.{length-append}
use Rattle.std.proofs.lemmas.List.FromFn.{length-map-range_with_len}
use Rattle.std.proofs.lemmas.List.Sums.{sum_by-cons}
use Rattle.elf_definition.specs.declared.range.Range.{Range}
use Rattle.elf_definition.specs.Area.{range_end}
use Rattle.elf_definition.specs.ImageFault.{code_words}
use Rattle.elf_image.specs.Whole.{IsWholeRange}
use Rattle.method_splitter.specs.Shares.{share_count}
use Rattle.translate_program.specs.Places.{Place, place_at, places_in, places_of}
use Rattle.nv_translate.proofs.TranslatedMethods.Elements.{each-counted, each-joined}
use Rattle.nv_translate.proofs.TranslatedMethods.Shares.{share-begins, share-ends, share-more, some-shares, few-shares}

-- ---- they have words of whole ranges, and not too many

pub record IsGood (code : ℕ → Option ℕ) (p : Place) : Type 0 where
  pub whole : IsWholeRange code p.range
  pub some : 1 ≤ p.share.count
  pub within : p.share.first + p.share.count ≤ p.range.words
  pub short : p.share.count ≤ 6144

good-place : (code : ℕ → Option ℕ) (r : Range) (k : ℕ) → IsWholeRange code r → k < share_count 6144 r.words → IsGood code (place_at r k)
good-place code r k whole below =
    let begins = share-begins r.words k below in
    record {
      whole = whole;
      some = omega (arith, begins);
      within = omega (arith, begins);
      short = omega arith;
    }

pub good-places : (code : ℕ → Option ℕ) (ranges : List Range) → AllByRecursion (IsWholeRange code) ranges → AllByRecursion (IsGood code) (places_of ranges)
good-places code [] whole = tt
good-places code (r ∷ ranges) whole =
    each-joined (IsGood code) (places_in r) (places_of ranges)
    (each-counted (IsGood code) (place_at r) 0 (share_count 6144 r.words) (λ k from below. good-place code r k whole.0 (omega (arith, below))))
    (good-places code ranges whole.1)

-- ---- they rise

-- a place has the last words of its range
abbrev pub Ends : Place → Type 0
Ends p = p.share.first + p.share.count ≡ p.range.words

-- the next place goes on in the range, or begins one further on
pub record GoesOnIn (p q : Place) : Type 0 where
  pub same : q.range ≡ p.range
  pub first : q.share.first ≡ p.share.first + p.share.count
  pub more : p.share.first + p.share.count < p.range.words

pub record BeginsBehind (p q : Place) : Type 0 where
  pub ends : Ends p
  pub behind : range_end p.range < q.range.first
  pub first : q.share.first ≡ 0

abbrev pub AreRising : List Place → Type 0
AreRising [] = ⊤
AreRising (p ∷ []) = Ends p
AreRising (p ∷ q ∷ places) = (GoesOnIn p q ⊎ BeginsBehind p q) × AreRising (q ∷ places)

-- the first of them begins a range behind an address
abbrev Begin : ℕ → List Place → Type 0
Begin end [] = ⊤
Begin end (q ∷ places) = (end < q.range.first) × (q.share.first ≡ 0)

place-ends : (r : Range) (k : ℕ) → k + 1 ≡ share_count 6144 r.words → Ends (place_at r k)
place-ends r k last =
    let begins = share-begins r.words k (omega (arith, last)) in
    let ends = share-ends r.words k last in
    omega (arith, begins, ends)

range-rises : (r : Range) (rest : List Place) → AreRising rest → Begin (range_end r) rest → (n k : ℕ) → k + suc n ≡ share_count 6144 r.words
    → AreRising (map (place_at r) (range_with_len k (suc n)) ++ rest)
range-rises r [] rising begin zero k is = place-ends r k is
range-rises r (q ∷ rest) rising begin zero k is =
    (inr (record { ends = place-ends r k is; behind = begin.0; first = begin.1 }), rising)
range-rises r rest rising begin (suc n) k is =
    let more = share-more r.words k (omega (arith, is)) in
    let goes : GoesOnIn (place_at r k) (place_at r (k + 1)) = record { same = refl; first = omega (arith, more); more = omega (arith, more) } in
    (inl goes, range-rises r rest rising begin n (k + 1) (omega (arith, is)))

-- ranges that are not empty, with a gap behind each
abbrev AreApart : List Range → Type 0
AreApart [] = ⊤
AreApart (r ∷ []) = 1 ≤ r.words
AreApart (r ∷ s ∷ ranges) = (1 ≤ r.words) × (range_end r < s.first) × AreApart (s ∷ ranges)

apart-by : (ranges : List Range) → AllByRecursion (λ (r : Range). 1 ≤ r.words) ranges
    → AllAdjacentBelow (λ r s. range_end r < s.first) ranges (length ranges) → AreApart ranges
apart-by [] filled apart = tt
apart-by (r ∷ []) filled apart = filled.0
apart-by (r ∷ s ∷ ranges) filled apart = (
  filled.0,
  apart 0 r (omega arith),
  apart-by (s ∷ ranges) filled.1
      (λ k d lt. let gap = apart (suc k) d (omega (arith, lt)) in
      let next : suc k + 1 ≡ suc (k + 1) = omega arith in
      let moved : range_end (get_or (r ∷ s ∷ ranges) (suc k) d) < (get_or (r ∷ s ∷ ranges) (suc (k + 1)) d).first = rw next at gap in
      moved),
)

some-words : (r : Range) (ranges : List Range) → AreApart (r ∷ ranges) → 1 ≤ r.words
some-words r [] apart = apart
some-words r (s ∷ ranges) apart = apart.0

-- so many shares, which are some
counted-shares : (P : List Place → Type 0) (r : Range) (rest : List Place) → 1 ≤ r.words
    → ((n : ℕ) → 0 + suc n ≡ share_count 6144 r.words → P (map (place_at r) (range_with_len 0 (suc n)) ++ rest)) → P (places_in r ++ rest)
counted-shares P r rest some holds =
    let n = share_count 6144 r.words - 1 in
    let count : suc n ≡ share_count 6144 r.words = omega (arith, some-shares r.words some) in
    subst (λ m. P (map (place_at r) (range_with_len 0 m) ++ rest)) count (holds n (omega (arith, count)))

begin : (end : ℕ) (s : Range) (ranges : List Range) → end < s.first → 1 ≤ s.words → Begin end (places_of (s ∷ ranges))
begin end s ranges behind some =
    counted-shares (Begin end) s (places_of ranges) some (λ n is. let none : 6144 * 0 ≡ 0 = omega arith in (behind, none))

rising : (ranges : List Range) → AreApart ranges → AreRising (places_of ranges)
rising [] apart = tt
rising (r ∷ []) apart = counted-shares AreRising r [] apart (λ n is. range-rises r [] tt tt n 0 is)
rising (r ∷ s ∷ ranges) apart =
    counted-shares AreRising r (places_of (s ∷ ranges)) apart.0
    (λ n is. range-rises r (places_of (s ∷ ranges)) (rising (s ∷ ranges) apart.2)
    (begin (range_end r) s ranges apart.1 (some-words s ranges apart.2)) n 0 is)

pub places-rise : (ranges : List Range) → AllByRecursion (λ (r : Range). 1 ≤ r.words) ranges
    → AllAdjacentBelow (λ r s. range_end r < s.first) ranges (length ranges) → AreRising (places_of ranges)
places-rise ranges filled apart = rising ranges (apart-by ranges filled apart)

-- ---- how many there are

places-more : (r : Range) (ranges : List Range) → length (places_of (r ∷ ranges)) ≡ share_count 6144 r.words + length (places_of ranges)
places-more r ranges =
    length-append (places_in r) (places_of ranges)
    ∙ ap (λ n. n + length (places_of ranges)) (length-map-range_with_len (place_at r) 0 (share_count 6144 r.words))

pub places-few : (ranges : List Range) → 6144 * length (places_of ranges) ≤ code_words ranges + 6144 * length ranges
places-few [] = omega arith
places-few (r ∷ ranges) =
    let count = share_count 6144 r.words in
    let words = sum_by-cons (λ (r : Range). r.words) r ranges in
    omega (arith, places-more r ranges, words, few-shares r.words, places-few ranges)
