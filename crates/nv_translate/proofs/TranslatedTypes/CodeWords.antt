-- The words of the classes of code of a program that was accepted.
use Rattle.std.proofs.Common.{◌≡◌, ℕ, ◌+◌, ◌-◌, ◌*◌, ◌<◌, ◌≤◌, min, Bool, List, length, All, Option, Some, slice_get, arith}
use Rattle.std.proofs.lemmas.Grind.{div_ceil_times}
use Rattle.std.proofs.lemmas.List.Elements.{All-weaker}
use Rattle.std.proofs.lemmas.List.FromFn.{length-map-range_with_len}
use Rattle.elf_definition.specs.declared.range.Range.{Range}
use Rattle.elf_image.specs.Whole.{IsWholeRange}
use Rattle.method_splitter.specs.Shares.{share_count}
use Rattle.method_splitter.specs.declared.span.Span.{Span}
use Rattle.translate_classes.specs.Parts.{IsSpan}
use Rattle.translate_program.specs.Places.{Place, place_at, places_in, places_of, class_words}
use Rattle.translate_program.specs.Spans.{weight_at, weights_of}
use Rattle.translate_program.specs.Classes.{Placed, IsPlaced}
use Rattle.translate_program.proofs.CodeFiles.SpanLemmas.{cut-within}
use Rattle.translate_program.proofs.CodeFiles.UnitLemmas.{range-words, range-float}
use Rattle.nv_translate.proofs.TranslatedTypes.Lists.{all-counted, all-joined, all-at}
use Rattle.nv_translate.proofs.TranslatedTypes.CodeMethods.{HasWords}

-- words of a whole range
pub record IsInside (code : ℕ → Option ℕ) (p : Place) : Type 0 where
  pub whole : IsWholeRange code p.range
  pub within : p.share.first + p.share.count ≤ p.range.words

share-fits : (things k count : ℕ) → count * 6144 < things + 6144 → k < count → 6144 * k + min 6144 (things - 6144 * k) ≤ things
share-fits things k count most below = omega (arith, most, below)

inside : (code : ℕ → Option ℕ) (ranges : List Range) → All (IsWholeRange code) ranges → All (IsInside code) (places_of ranges)
inside code ranges whole =
    all-joined (IsInside code) places_in ranges
    (λ i r there.
    all-counted (IsInside code) (place_at r) 0 (share_count class_words r.words)
    (λ k low high. record {
      whole = all-at (IsWholeRange code) ranges i r whole there;
      within = share-fits r.words k (share_count class_words r.words) ((div_ceil_times r.words 6144 (omega arith)).1) (omega (arith, high));
    }))

module _ {metered : Bool} (code : ℕ → Option ℕ) (method_bytes : ℕ) (p : Place) (c : Placed) (is : IsInside code p) (placed : IsPlaced metered code method_bytes p c) where
  pub class-words : HasWords c
  class-words =
      let weights = weights_of c.part c.part.words in
      let range = placed.part_is.range_is in
      record {
        words = range.words;
        units_are = range.units_are;
        are_words = range-words code p.range c.part.units.now c.part.leads.now is.whole range;
        no_float = range-float code p.range c.part.units.now c.part.leads.now is.whole range;
        within =
            All-weaker (IsSpan (0 + length weights)) (λ (s : Span). c.part.first + s.first + s.words ≤ length range.words)
            (λ s fits.
            omega (arith, fits.within, is.within, placed.part_is.first_is, placed.part_is.words_are, range.are_words.count, length-map-range_with_len (weight_at c.part) 0 c.part.words))
            c.spans (cut-within 0 weights method_bytes c.spans placed.spans_are.cuts);
      }

pub words-inside : {metered : Bool} (code : ℕ → Option ℕ) (ranges : List Range) (i : ℕ) (p : Place) → All (IsWholeRange code) ranges
    → slice_get (places_of ranges) i ≡ Some p → (method_bytes : ℕ) (c : Placed) → IsPlaced metered code method_bytes p c → HasWords c
words-inside code ranges i p whole there method_bytes c placed =
    class-words code method_bytes p c (all-at (IsInside code) (places_of ranges) i p (inside code ranges whole) there) placed
