-- The units of a range of a program that was accepted are of words, none of the floating-point coprocessor.
use Rattle.std.proofs.Common.{◌≡◌, ℕ, ◌<◌, not, Bool, false, List, [], ◌∷◌, length, get_or, All, Option, refl, ap, subst, arith}
use Rattle.std.specs.List.{list_all}
use Rattle.std.proofs.lemmas.Bool.{and_from}
use Rattle.std.proofs.lemmas.List.Elements.{All-head, All-tail, All-from_get_or}
use Rattle.run_definition.specs.Words.{IsWord}
use Rattle.mips_definition.specs.Table.{is_float}
use Rattle.delay_slots.specs.Units.{HasNoFloat}
use Rattle.delay_slots.specs.declared.unit.Unit.{Unit}
use Rattle.elf_definition.specs.declared.range.Range.{Range}
use Rattle.elf_image.specs.Whole.{IsPlainWord, IsWholeRange}
use Rattle.elf_image_parts.specs.Ranges.{IsRangeCode}
use Rattle.translate_classes.specs.Parts.{IsCode}

none-float : (words : List ℕ) → All (λ (word : ℕ). is_float word ≡ false) words → HasNoFloat words
none-float [] all = refl
none-float (word ∷ words) all =
    and_from (not (is_float word)) (list_all (λ (w : ℕ). not (is_float w)) words)
    (ap not (All-head (λ (w : ℕ). is_float w ≡ false) word words all))
    (none-float words (All-tail (λ (w : ℕ). is_float w ≡ false) word words all))

module _ (code : ℕ → Option ℕ) (range : Range) (units : List Unit) (leads : List Bool) (whole : IsWholeRange code range)
    (is : IsRangeCode code range units leads) where
  plain : (k : ℕ) → k < length is.words → IsWord (get_or is.words k 0) × (is_float (get_or is.words k 0) ≡ false)
  plain k below =
      let less : k < range.words = omega (arith, below, is.are_words.count) in
      subst IsPlainWord (is.are_words.each k less) (whole.there k less)

  pub range-words : All IsWord is.words
  range-words = All-from_get_or IsWord is.words 0 (λ k below. (plain k below).0)

  pub range-float : HasNoFloat is.words
  range-float = none-float is.words (All-from_get_or (λ (w : ℕ). is_float w ≡ false) is.words 0 (λ k below. (plain k below).1))

  pub range-code : IsCode units
  range-code = record { words = is.words; are_words = range-words; no_float = range-float; units_are = is.units_are }
