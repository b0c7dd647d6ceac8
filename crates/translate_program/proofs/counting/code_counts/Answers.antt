use Rattle.std.proofs.Common.{◌≡◌, ◌+◌, List, ◌++◌, ◌∷◌, [], length, map, take, All, refl, ap, sym, ◌∙◌, subst, arith}
use Rattle.std.proofs.lemmas.List.{take_all, take_more}
use Rattle.elf_definition.specs.Start.{image_of}
use Rattle.elf_image_parts.specs.declared.code.RangeCode.{RangeCode}
use Rattle.method_splitter.specs.Shares.{share_count}
use Rattle.translate_program.specs.Places.{class_words, places_in, places_of}
use Rattle.translate_program.specs.Ranges.{IsRangeOf, range_of}
use Rattle.translate_program.specs.Classes.{ArePlaced, AreCodeClasses}
use Rattle.translate_program.specs.Counting.{CountsPlaces}
use Rattle.translate_program.proofs.CodeFiles.RangeLemmas.{code-low, places-next, places-push}
use Rattle.translate_program.proofs.CodeFiles.ClassLemmas.{no-counts}
use Rattle.translate_program.proofs.Counts.PlaceLemmas.{counts-count}
use Rattle.translate_program.proofs.OneCode.Classes.{many-one, methods-one}
use Rattle.translate_program.proofs.counting.code_counts.Goals as goal

pub loop-range-init : goal.loop-range-init
loop-range-init c = record {
  places = no-counts c.args.metered (image_of c.args.ranges.now.image.value).code c.args.method_bytes _ refl refl;
  few = omega arith;
}

pub count_range-requires : goal.count_range-requires
count_range-requires c =
    let code = (image_of c.args.ranges.now.image.value).code in
    let items = c.as_slice-items.result.now in
    let all = c.as_slice-items.ensures.value in
    let k = c.loop-range.range-index in
    let range = c.range-item.result in
    let less = c.loop-range-test.true in
    let is = c.range-item.is in
    let each = subst (All (IsRangeOf code)) (sym all) c.requires.each in
    let own = subst (IsRangeOf code) (sym is) (each k range less) in
    let places = places_of (map range_of (take k items)) in
    let count = counts-count c.args.metered code c.args.method_bytes places c.loop-range.counts c.loop-range.invariant.places in
    record {
      low = code-low code range own;
      classes =
          omega (
            arith,
            count,
            places-next items k range less,
            ap (λ (r : RangeCode). share_count class_words (length r.units)) is,
            ap (λ (l : List RangeCode). length (places_of (map range_of l))) all,
            c.requires.few,
          );
      few = c.loop-range.invariant.few;
    }

pub loop-range-preserved : goal.loop-range-preserved
loop-range-preserved c =
    let code = (image_of c.args.ranges.now.image.value).code in
    let items = c.as_slice-items.result.now in
    let k = c.loop-range.range-index in
    let range = c.range-item.result in
    let less = c.loop-range-test.true in
    let is = c.range-item.is in
    let each = subst (All (IsRangeOf code)) (sym c.as_slice-items.ensures.value) c.requires.each in
    let own = subst (IsRangeOf code) (sym is) (each k range less) in
    let next = take_more items k range less ∙ ap (λ r. take k items ++ r ∷ []) (sym is) in
    let more : places_of (map range_of (take (k + 1) items)) ≡ places_of (map range_of (take k items)) ++ places_in (range_of range) =
    ap (λ l. places_of (map range_of l)) next ∙ places-push (take k items) range in
    record {
      places =
          subst (λ l. CountsPlaces c.args.metered code c.args.method_bytes l c.count_range.new.counts) (sym more)
          (c.in_ok-count_range.ensures.places code (places_of (map range_of (take k items))) own c.loop-range.invariant.places);
      few = c.in_ok-count_range.ensures.few;
    }

pub returns-clause-counts : goal.returns-clause-counts
returns-clause-counts c =
    let source = c.args.ranges.now.image.value in
    let method_bytes = c.args.method_bytes in
    let items = c.as_slice-items.result.now in
    let codes = c.args.ranges.now.items.items in
    let has = c.loop-range.invariant.places in
    let all : take c.loop-range.range-index items ≡ codes =
    take_all c.loop-range.range-index items c.loop-range-test.false ∙ c.as_slice-items.ensures.value in
    let are : AreCodeClasses c.args.metered source method_bytes has.classes = record {
      ranges = map range_of codes;
      ranges_are = c.requires.ranges_are;
      placed = subst (λ l. ArePlaced c.args.metered (image_of source).code method_bytes (places_of (map range_of l)) has.classes) all has.placed;
    } in
    record {
      classes_are = λ classes is. has.classes_are ∙ many-one source method_bytes has.classes classes are is;
      methods_are = λ classes is. has.methods_are ∙ methods-one source method_bytes has.classes classes are is;
    }

pub returns-clause-few : goal.returns-clause-few
returns-clause-few c =
    let code = (image_of c.args.ranges.now.image.value).code in
    let items = c.as_slice-items.result.now in
    let k = c.loop-range.range-index in
    let all = take_all k items c.loop-range-test.false ∙ c.as_slice-items.ensures.value in
    let places = places_of (map range_of (take k items)) in
    let count = counts-count c.args.metered code c.args.method_bytes places c.loop-range.counts c.loop-range.invariant.places in
    omega (arith, count, ap (λ (l : List RangeCode). length (places_of (map range_of l))) all, c.requires.few)

pub returns-clause-methods : goal.returns-clause-methods
returns-clause-methods c = omega (arith, returns-clause-few c, c.loop-range.invariant.few)
