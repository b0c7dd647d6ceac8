-- A translation has few classes, and a class of code few spans.
use Rattle.std.proofs.Common.{◌≡◌, ℕ, ◌+◌, ◌≤◌, ◌^◌, Bool, List, [], ◌∷◌, length, drop, Some, subst, slice_get, inl, inr, length-append, length-drop, arith}
use Rattle.std.specs.List.{range_with_len}
use Rattle.std.proofs.lemmas.List.Sums.{sum_by-cons}
use Rattle.std.proofs.lemmas.Slice.Zip.{AllZip-long}
use Rattle.elf_definition.specs.declared.range.Range.{Range}
use Rattle.elf_definition.specs.ImageFault.{code_words}
use Rattle.elf_definition.specs.Start.{Source, image_of}
use Rattle.method_splitter.specs.Shares.{share_count}
use Rattle.method_splitter.specs.Cuts.{Cuts}
use Rattle.method_splitter.specs.declared.span.Span.{Span}
use Rattle.translate_program.specs.Classes.{Placed, IsPlaced, AreCodeClasses}
use Rattle.translate_program.specs.Places.{Place, class_words, place_at, places_in, places_of}
use Rattle.translate_program.specs.Spans.{weight_at, weights_of}
use Rattle.translate_program.specs.DataFiles.{class_count, filled_pages}
use Rattle.translate_program.proofs.Counts.PageLemmas.{data-few as classes-of-data}
use Rattle.nv_translate.specs.WholeCode.{HasWholeCode}
use Rattle.nv_translate.proofs.LinkedTranslations.Lists.{mapped-length, mapped-from, get-either, zip-second}

-- ---- classes of code

shares-few : (n : ℕ) → share_count class_words n ≤ n
shares-few n = omega arith

places-few : (ranges : List Range) → length (places_of ranges) ≤ code_words ranges
places-few [] = omega arith
places-few (r ∷ ranges) =
    let own : length (places_in r) ≡ share_count class_words r.words = mapped-length (place_at r) (share_count class_words r.words) in
    omega (arith, own, shares-few r.words, length-append (places_in r) (places_of ranges), sum_by-cons (λ (x : Range). x.words) r ranges, places-few ranges)

pub code-few : {metered : Bool} (source : Source) (method_bytes : ℕ) (code : List Placed) → HasWholeCode source → AreCodeClasses metered source method_bytes code
    → length code ≤ 2 ^ 64
code-few {metered} source method_bytes code whole are =
    let long = AllZip-long (IsPlaced metered (image_of source).code method_bytes) (places_of are.ranges) code are.placed.each in
    omega (arith, long, places-few are.ranges, whole.words are.ranges are.ranges_are)

-- ---- spans

cuts-few : (first limit : ℕ) (weights : List ℕ) (spans : List Span) → Cuts first weights limit spans → length spans ≤ length weights
cuts-few first limit weights [] cuts = omega arith
cuts-few first limit weights (s ∷ spans) cuts =
    let some = cuts.1 in
    let within = cuts.2 in
    omega (arith, some, within, length-drop s.words weights, cuts-few (first + s.words) limit (drop s.words weights) spans cuts.4)

place-few : (ranges : List Range) (k : ℕ) (p : Place) → slice_get (places_of ranges) k ≡ Some p → p.share.count ≤ 6144
place-few [] k p e = absurd cc
place-few (r ∷ ranges) k p e = elim (get-either (places_in r) (places_of ranges) k p e) [
  | inl front ↦ let from = mapped-from (place_at r) (range_with_len 0 (share_count class_words r.words)) k p front in
      subst (λ (x : Place). x.share.count ≤ 6144) from.2 (omega arith)
  | inr behind ↦ place-few ranges behind.0 p behind.2
]

pub spans-few : {metered : Bool} (source : Source) (method_bytes : ℕ) (code : List Placed) → AreCodeClasses metered source method_bytes code
    → (i : ℕ) (c : Placed) → slice_get code i ≡ Some c → length c.spans ≤ 2 ^ 64
spans-few {metered} source method_bytes code are i c at =
    let found = zip-second (IsPlaced metered (image_of source).code method_bytes) (places_of are.ranges) code i c are.placed.each at in
    let few : length c.spans ≤ length (weights_of c.part c.part.words) =
    cuts-few 0 method_bytes (weights_of c.part c.part.words) c.spans found.2.spans_are.cuts in
    omega (arith, few, mapped-length (weight_at c.part) c.part.words, found.2.part_is.words_are, place-few are.ranges i found.0 found.1)

-- ---- classes of data

pub data-few : (source : Source) → class_count (filled_pages source) ≤ 2 ^ 64
data-few source = omega (arith, classes-of-data source)
