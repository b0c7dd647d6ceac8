-- The units of a class of code are lawful.
use Rattle.std.proofs.Common.{◌≡◌, ℕ, suc, ◌+◌, ◌*◌, ◌<◌, Bool, true, false, List, [], ◌∷◌, Option, Some, sym, ap, subst, ◌∙◌, slice_get, inl, inr, arith, refl}
use Rattle.std.specs.Prelude.{not}
use Rattle.std.specs.List.{All, list_all, range_with_len}
use Rattle.std.specs.Cmp.Derive.{both_true}
use Rattle.std.proofs.lemmas.Option.{slice_get_within, get_or_from_slice_get}
use Rattle.run_definition.specs.Words.{IsWord}
use Rattle.mips_definition.specs.Table.{is_float}
use Rattle.delay_slots.specs.Units.{HasNoFloat}
use Rattle.delay_slots.specs.declared.unit.Unit.{Unit}
use Rattle.elf_definition.specs.declared.range.Range.{Range}
use Rattle.elf_definition.specs.Start.{Source, image_of}
use Rattle.elf_image.specs.Whole.{IsPlainWord, IsWholeRange}
use Rattle.elf_image_parts.specs.Ranges.{IsRangeCode}
use Rattle.method_splitter.specs.Shares.{share_count}
use Rattle.emit_program_laws.specs.SpanCodeLaws.Lawful.{IsLawful}
use Rattle.emit_program_laws.specs.SpanCodeLaws.LawfulUnits.{UnitsAreLawful}
use Rattle.translate_program.specs.Classes.{Placed, IsPlaced, AreCodeClasses}
use Rattle.translate_program.specs.Places.{Place, class_words, place_at, places_in, places_of}
use Rattle.nv_translate.specs.WholeCode.{HasWholeCode}
use Rattle.nv_translate.proofs.LinkedTranslations.Lists.{mapped-from, get-either, zip-second, all-got}

all-pass : {A : Type 0} (test : A → Bool) (xs : List A) → ((k : ℕ) (x : A) → slice_get xs k ≡ Some x → test x ≡ true) → list_all test xs ≡ true
all-pass test [] each = refl
all-pass test (x ∷ xs) each = both_true (each 0 x refl) (all-pass test xs (λ k y e. each (suc k) y e))

-- a place is one of a range
range-of : (P : Range → Type 0) (ranges : List Range) → All P ranges → (k : ℕ) (p : Place) → slice_get (places_of ranges) k ≡ Some p → P p.range
range-of P [] all k p e = absurd cc
range-of P (r ∷ ranges) all k p e = elim (get-either (places_in r) (places_of ranges) k p e) [
  | inl front ↦ let from = mapped-from (place_at r) (range_with_len 0 (share_count class_words r.words)) k p front in
      subst (λ (x : Place). P x.range) from.2 (all 0 r (omega arith))
  | inr behind ↦ range-of P ranges (λ j d h. all (suc j) d (omega (arith, h))) behind.0 p behind.2
]

module _ (law : UnitsAreLawful) (code : ℕ → Option ℕ) (range : Range) (units : List Unit) (leads : List Bool) (whole : IsWholeRange code range)
    (is : IsRangeCode code range units leads) where
  plain-word : (k w : ℕ) → slice_get is.words k ≡ Some w → IsWord w × (is_float w ≡ false)
  plain-word k w e =
      let below : k < range.words = omega (arith, slice_get_within is.words k w e, is.are_words.count) in
      let there : code (range.first + 4 * k) ≡ Some w = is.are_words.each k below ∙ ap (λ x. Some x) (get_or_from_slice_get is.words k w 0 e) in
      subst IsPlainWord there (whole.there k below)

  range-lawful : All IsLawful units
  range-lawful =
      let fit : All IsWord is.words = all-got IsWord is.words (λ k w e. (plain-word k w e).0) in
      let plain : HasNoFloat is.words = all-pass (λ w. not (is_float w)) is.words (λ k w e. ap not (plain-word k w e).1) in
      subst (All IsLawful) (sym is.units_are) (law is.words fit plain)

pub code-lawful : {metered : Bool} → UnitsAreLawful → (source : Source) (method_bytes : ℕ) (code : List Placed) → HasWholeCode source
    → AreCodeClasses metered source method_bytes code
    → (i : ℕ) (c : Placed) → slice_get code i ≡ Some c → All IsLawful c.part.units.now
code-lawful {metered} law source method_bytes code whole are i c at =
    let words = (image_of source).code in
    let found = zip-second (IsPlaced metered words method_bytes) (places_of are.ranges) code i c are.placed.each at in
    range-lawful law words found.0.range c.part.units.now c.part.leads.now
    (range-of (IsWholeRange words) are.ranges (whole.whole are.ranges are.ranges_are) i found.0 found.1) found.2.part_is.range_is
