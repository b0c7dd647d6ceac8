-- The places of words, one more, and the parts at them.
use Rattle.std.proofs.Common.{◌≡◌, ℕ, Bool, ◌+◌, List, [], ◌∷◌, ◌++◌, length, Option, ap, sym, ◌∙◌, arith, subst, append_assoc}
use Rattle.std.proofs.lemmas.List.FromFn.{map-range_with_len_more}
use Rattle.elf_definition.specs.declared.range.Range.{Range}
use Rattle.elf_image.specs.Whole.{IsWholeRange}
use Rattle.elf_image_parts.specs.declared.code.RangeCode.{RangeCode}
use Rattle.elf_image_parts.specs.Ranges.{IsRangeCode}
use Rattle.translate_classes.specs.declared.part.Part.{Part}
use Rattle.translate_program.specs.Places.{Place, place_at, first_places, IsPartAt}
use Rattle.translate_program.specs.Parts.{IsLow, IsPartOf}

pub place-more : (before : List Place) (range : Range) (k : ℕ)
    → before ++ first_places range (k + 1) ≡ (before ++ first_places range k) ++ place_at range k ∷ []
place-more before range k =
    ap (λ l. before ++ l) (map-range_with_len_more (place_at range) 0 k k (omega arith))
    ∙ sym (append_assoc before (first_places range k) (place_at range k ∷ []))

-- a range that keeps the units of other words is the same code
pub kept-coded : (code : ℕ → Option ℕ) (range : Range) (old new : RangeCode) → new.units ≡ old.units → new.leads ≡ old.leads
    → IsRangeCode code range old.units old.leads.items → IsRangeCode code range new.units new.leads.items
kept-coded code range old new units leads coded =
    subst (λ us. IsRangeCode code range us new.leads.items) (sym units)
    (subst (λ flags. IsRangeCode code range old.units flags.items) (sym leads) coded)

-- the part at a place is that of the class of a number
pub part-at : (metered : Bool) (code : ℕ → Option ℕ) (range : Range) (c : RangeCode) (k : ℕ) (part : Part) → IsRangeCode code range c.units c.leads.items
    → c.start ≡ range.first → IsPartOf metered c range.words k part → IsPartAt code (place_at range k) part
part-at metered code range c k part coded start is = record {
  range_is =
      subst (λ units. IsRangeCode code range units part.leads.now) (sym is.units_are)
      (subst (λ leads. IsRangeCode code range c.units leads) (sym is.leads_are) coded);
  start_is = is.start_is ∙ start;
  first_is = is.first_is;
  words_are = is.words_are;
}

pub range-low : (code : ℕ → Option ℕ) (range : Range) (c : RangeCode) → IsWholeRange code range → IsRangeCode code range c.units c.leads.items
    → c.start ≡ range.first → length c.units ≡ range.words → IsLow c range.words
range-low code range c whole coded start count = record {
  units = count;
  leads = coded.leads_are.same_len ∙ count;
  low = omega (arith, whole.low, start);
}

pub kept-low : (old new : RangeCode) (n : ℕ) → new.units ≡ old.units → new.leads ≡ old.leads → new.start ≡ old.start → IsLow old n → IsLow new n
kept-low old new n units leads start low = record {
  units = ap length units ∙ low.units;
  leads = subst (λ flags. length flags.items ≡ n) (sym leads) low.leads;
  low = omega (arith, start, low.low);
}
