-- Each word of ranges is at one of their places.
use Rattle.std.proofs.Common.{◌≡◌, ℕ, ◌+◌, ◌-◌, ◌*◌, ◌/◌, ◌%◌, ◌<◌, ◌≤◌, Bool, true, false, ◌||◌, List, [], ◌∷◌, ◌++◌, length, slice_get, Some, refl, ◌∙◌, arith, ltb-true, leb-true}
use Rattle.std.specs.List.{list_any, AllByRecursion}
use Rattle.std.proofs.lemmas.Bool.{and_parts}
use Rattle.elf_definition.specs.declared.range.Range.{Range}
use Rattle.elf_definition.specs.Area.{range_end, has_address}
use Rattle.method_splitter.specs.Shares.{share_count}
use Rattle.translate_program.specs.Places.{Place, place_at, places_in, places_of}
use Rattle.nv_translate.proofs.TranslatedMethods.Planned.{left-of, right-of, counted-first}
use Rattle.nv_translate.proofs.TranslatedMethods.Shares.{share-has, share-within}

-- one of the words at places stands at an address
pub record IsAtPlace (places : List Place) (a : ℕ) : Type 0 where
  pub number : ℕ
  pub place : Place
  pub there : slice_get places number ≡ Some place
  pub word : ℕ
  pub below : word < place.share.count
  pub is_there : a ≡ place.range.first + 4 * (place.share.first + word)

in-range : (r : Range) (rest : List Place) (a : ℕ) → r.first % 4 ≡ 0 → a % 4 ≡ 0 → has_address a r ≡ true → IsAtPlace (places_in r ++ rest) a
in-range r rest a aligned even has =
    let parts = and_parts _ _ has in
    let from : r.first ≤ a = leb-true r.first a parts.0 in
    let to : a < range_end r = ltb-true a (range_end r) parts.1 in
    let j = (a - r.first) / 4 in
    let below : j < r.words = omega (arith, from, to) in
    let is : a ≡ r.first + 4 * j = omega (arith, from, aligned, even) in
    let k = j / 6144 in
    let parted : j ≡ 6144 * k + j % 6144 = omega arith in
    record {
      number = k;
      place = place_at r k;
      there = left-of (places_in r) rest k (place_at r k) (counted-first (place_at r) (share_count 6144 r.words) k (share-has r.words j below));
      word = j % 6144;
      below = share-within r.words j below;
      is_there = omega (arith, is, parted);
    }

further : (r : Range) (places : List Place) (a : ℕ) → IsAtPlace places a → IsAtPlace (places_in r ++ places) a
further r places a at = record {
  number = length (places_in r) + at.number;
  place = at.place;
  there = right-of (places_in r) places at.number ∙ at.there;
  word = at.word;
  below = at.below;
  is_there = at.is_there;
}

one-of : (r : Range) (ranges : List Range) (a : ℕ) (b : Bool) → r.first % 4 ≡ 0 → a % 4 ≡ 0 → has_address a r ≡ b
    → (list_any (has_address a) ranges ≡ true → IsAtPlace (places_of ranges) a) → (b || list_any (has_address a) ranges) ≡ true
    → IsAtPlace (places_of (r ∷ ranges)) a
one-of r ranges a true aligned even here others all = in-range r (places_of ranges) a aligned even here
one-of r ranges a false aligned even not_here others all = further r (places_of ranges) a (others all)

pub words-at : (ranges : List Range) (a : ℕ) → AllByRecursion (λ (r : Range). r.first % 4 ≡ 0) ranges → a % 4 ≡ 0
    → list_any (has_address a) ranges ≡ true → IsAtPlace (places_of ranges) a
words-at [] a aligned even has = absurd (cc)
words-at (r ∷ ranges) a aligned even has =
    one-of r ranges a (has_address a r) aligned.0 even refl (λ others. words-at ranges a aligned.1 even others) has
