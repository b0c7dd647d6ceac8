-- The ranges of a program, and one more.
use Rattle.std.proofs.Common.{◌≡◌, ℕ, zero, suc, ◌+◌, ◌<◌, ◌≤◌, List, [], ◌∷◌, ◌++◌, length, map, take, get_or, Option, refl, ap, ◌∙◌, arith, length-append}
use Rattle.std.proofs.lemmas.List.{append-nil, map_push}
use Rattle.std.proofs.lemmas.List.Concat.{flat_map-append}
use Rattle.elf_definition.specs.declared.range.Range.{Range}
use Rattle.elf_image_parts.specs.declared.code.RangeCode.{RangeCode}
use Rattle.method_splitter.specs.Shares.{share_count}
use Rattle.translate_classes.specs.Parts.{IsCode}
use Rattle.translate_program.specs.Parts.{IsLow}
use Rattle.translate_program.specs.Places.{class_words, places_in, places_of}
use Rattle.translate_program.specs.Ranges.{range_of, IsRangeOf}
use Rattle.translate_program.proofs.CodeFiles.PlaceLemmas.{range-low}
use Rattle.translate_program.proofs.CodeFiles.UnitLemmas.{range-code}
use Rattle.translate_program.proofs.Counts.PlaceLemmas.{in-count}

abbrev range : ℕ → ℕ → Range
range first words = record { first = first; words = words }

pub range-is : (c : RangeCode) (r : Range) → c.start ≡ r.first → length c.units ≡ r.words → range_of c ≡ r
range-is c r first words = ap (λ n. range n (length c.units)) first ∙ ap (range r.first) words

pub places-push : (codes : List RangeCode) (c : RangeCode)
    → places_of (map range_of (codes ++ c ∷ [])) ≡ places_of (map range_of codes) ++ places_in (range_of c)
places-push codes c =
    ap places_of (map_push range_of codes c)
    ∙ flat_map-append places_in (map range_of codes) (range_of c ∷ [])
    ∙ ap (λ l. places_of (map range_of codes) ++ l) (append-nil (places_in (range_of c)))

-- the classes of the first ranges, and those of the next one
pub places-next : (codes : List RangeCode) (k : ℕ) (d : RangeCode) → k < length codes
    → length (places_of (map range_of (take k codes))) + share_count class_words (length (get_or codes k d).units)
    ≤ length (places_of (map range_of codes))
places-next [] k d less = absurd (omega (arith, less))
places-next (c ∷ codes) zero d less =
    omega (arith, in-count (range_of c), length-append (places_in (range_of c)) (places_of (map range_of codes)))
places-next (c ∷ codes) (suc k) d less =
    omega (
      arith,
      length-append (places_in (range_of c)) (places_of (map range_of (take k codes))),
      length-append (places_in (range_of c)) (places_of (map range_of codes)),
      places-next codes k d (omega (arith, less)),
    )

-- ---- what is asked of a range before its classes are made

pub code-low : (code : ℕ → Option ℕ) (c : RangeCode) → IsRangeOf code c → IsLow c (length c.units)
code-low code c is = range-low code (range_of c) c is.whole is.coded refl refl

pub code-lawful : (code : ℕ → Option ℕ) (c : RangeCode) → IsRangeOf code c → IsCode c.units
code-lawful code c is = range-code code (range_of c) c.units c.leads.items is.whole is.coded
