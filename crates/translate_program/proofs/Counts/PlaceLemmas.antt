-- A program has few classes of code.
use Rattle.std.proofs.Common.{◌≡◌, ℕ, Bool, ◌+◌, ◌*◌, ◌≤◌, List, [], ◌∷◌, length, All, Option, ◌∙◌, arith, length-append}
use Rattle.std.proofs.lemmas.List.Elements.{All-head}
use Rattle.std.proofs.lemmas.List.FromFn.{length-map-range_with_len}
use Rattle.std.proofs.lemmas.List.Sums.{sum_by-cons}
use Rattle.std.proofs.lemmas.Slice.Zip.{AllZip-long}
use Rattle.nv_values.specs.Names.{Text}
use Rattle.elf_definition.specs.declared.range.Range.{Range}
use Rattle.elf_definition.specs.ImageFault.{code_words}
use Rattle.elf_image.specs.Whole.{IsWholeRange}
use Rattle.method_splitter.specs.Shares.{share_count}
use Rattle.translate_program.specs.declared.code_files.Code.{Code}
use Rattle.translate_program.specs.Places.{Place, class_words, place_at, places_in, places_of}
use Rattle.translate_program.specs.Classes.{IsPlaced, IsCodeFile}
use Rattle.translate_program.specs.Adding.{HasPlaces}
use Rattle.translate_program.specs.declared.counting.CodeCounts.{CodeCounts}
use Rattle.translate_program.specs.Counting.{CountsPlaces}

pub in-count : (r : Range) → length (places_in r) ≡ share_count class_words r.words
in-count r = length-map-range_with_len (place_at r) 0 (share_count class_words r.words)

-- each range has one class at most that is not full
words-few : (n : ℕ) → 6144 * share_count class_words n ≤ n + 6143
words-few n = omega arith

places-few : (ranges : List Range) → 6144 * length (places_of ranges) ≤ code_words ranges + 6143 * length ranges
places-few [] = omega arith
places-few (r ∷ ranges) =
    omega (
      arith,
      in-count r,
      words-few r.words,
      length-append (places_in r) (places_of ranges),
      sum_by-cons (λ (x : Range). x.words) r ranges,
      places-few ranges,
    )

pub places-most : (ranges : List Range) → code_words ranges ≤ 1_048_576 → length ranges ≤ 64 → length (places_of ranges) ≤ 235
places-most ranges words few = omega (arith, places-few ranges, words, few)

words-some : (n : ℕ) → 1 ≤ n → 1 ≤ share_count class_words n
words-some n some = omega (arith, some)

pub places-some : (code : ℕ → Option ℕ) (ranges : List Range) → All (IsWholeRange code) ranges → 1 ≤ length ranges → 1 ≤ length (places_of ranges)
places-some code [] whole some = absurd (omega (arith, some))
places-some code (r ∷ ranges) whole some =
    omega (arith, in-count r, words-some r.words (All-head (IsWholeRange code) r ranges whole).filled, length-append (places_in r) (places_of ranges))

pub places-count : (metered : Bool) (code : ℕ → Option ℕ) (name : Text) (method_bytes : ℕ) (places : List Place) (c : Code)
    → HasPlaces metered code name method_bytes places c → length c.files.items ≡ length places
places-count metered code name method_bytes places c has =
    AllZip-long (IsCodeFile name) has.classes c.files.items has.told.files_are
    ∙ AllZip-long (IsPlaced metered code method_bytes) places has.classes has.placed.each

pub counts-count : (metered : Bool) (code : ℕ → Option ℕ) (method_bytes : ℕ) (places : List Place) (n : CodeCounts)
    → CountsPlaces metered code method_bytes places n → n.classes ≡ length places
counts-count metered code method_bytes places n has =
    has.classes_are ∙ AllZip-long (IsPlaced metered code method_bytes) places has.classes has.placed.each
