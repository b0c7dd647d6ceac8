-- How many units a range has, and where it ends.
use Rattle.std.proofs.Common.{◌≡◌, ℕ, suc, ◌+◌, ◌*◌, ◌<◌, ◌^◌, List, [], ◌∷◌, length, refl, ap, ◌∙◌, arith, subst, sym}
use Rattle.std.specs.Prelude.{Option}
use Rattle.delay_slots.specs.declared.unit.Unit.{Unit}
use Rattle.delay_slots.specs.Units.{units_of}
use Rattle.elf_definition.specs.declared.range.Range.{Range}
use Rattle.elf_image.specs.Whole.{IsWholeRange}
use Rattle.elf_image_parts.specs.Ranges.{AreWords}

same_count : (words : List ℕ) → length (units_of words) ≡ length words
same_count [] = refl
same_count (word ∷ words) = ap suc (same_count words)

-- a unit for each word
pub unit_count : (code : ℕ → Option ℕ) (range : Range) (words : List ℕ) (units : List Unit) → AreWords code range words → units ≡ units_of words
    → length units ≡ range.words
unit_count code range words units are e = ap length e ∙ same_count words ∙ are.count

-- all words end low
pub ends_low : (code : ℕ → Option ℕ) (range : Range) (units : List Unit) → IsWholeRange code range → length units ≡ range.words
    → range.first + 4 * length units < 2 ^ 32
ends_low code range units whole e = subst (λ n. range.first + 4 * n < 2 ^ 32) (sym e) (omega (arith, whole.low))
