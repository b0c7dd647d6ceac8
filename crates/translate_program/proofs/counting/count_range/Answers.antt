use Rattle.std.proofs.Common.{◌≡◌, ◌++◌, length, refl, ap, sym, ◌∙◌, subst, arith}
use Rattle.std.proofs.lemmas.List.{append-nil}
use Rattle.method_splitter.specs.Shares.{share_count}
use Rattle.translate_program.specs.Parts.{IsLow, IsPartOf}
use Rattle.translate_program.specs.Places.{class_words, place_at, first_places}
use Rattle.translate_program.specs.Ranges.{range_of}
use Rattle.translate_program.specs.Counting.{CountsPlaces}
use Rattle.translate_program.proofs.CodeFiles.PlaceLemmas.{place-more, part-at}
use Rattle.translate_program.proofs.CodeFiles.ClassLemmas.{count-more}
use Rattle.translate_program.proofs.counting.count_range.Goals as goal

pub part_at-part-requires-clause-low : goal.part_at-part-requires-clause-low
part_at-part-requires-clause-low c =
    let range = c.args.range.now in
    let words : c.len-words.result ≡ length range.units = omega (arith, c.len-words.ensures) in
    subst (IsLow range) (sym words) c.requires.low

pub count_class-requires-clause-classes : goal.count_class-requires-clause-classes
count_class-requires-clause-classes c =
    let range = c.args.range.now in
    let words : c.len-words.result ≡ length range.units = omega (arith, c.len-words.ensures) in
    omega (arith, c.loop-k.invariant.count, c.loop-k-test.true, c.part_count-k-end.ensures, ap (share_count class_words) words, c.requires.classes)

pub loop-k-init : goal.loop-k-init
loop-k-init c = record {
  places = λ code places own has.
      subst (λ l. CountsPlaces c.args.metered code c.args.method_bytes l c.args.counts.now) (sym (append-nil places)) has;
  few = c.requires.few;
  count = omega arith;
}

pub loop-k-preserved : goal.loop-k-preserved
loop-k-preserved c =
    let range = c.args.range.now in
    let k = c.loop-k.k in
    let part = c.part_at-part.result in
    let words : c.len-words.result ≡ length range.units = omega (arith, c.len-words.ensures) in
    let is = subst (λ n. IsPartOf c.args.metered range n k part) words c.part_at-part.ensures.value in
    let counted = c.in_ok-count_class.ensures.counted in
    record {
      places = λ code places own has.
          subst (λ l. CountsPlaces c.args.metered code c.args.method_bytes l c.count_class.new.counts) (sym (place-more places (range_of range) k))
          (count-more c.args.metered code c.args.method_bytes part c.loop-k.counts c.count_class.new.counts
          (places ++ first_places (range_of range) k) (place_at (range_of range) k) counted is.metered_is
          (part-at c.args.metered code (range_of range) range k part own.coded refl is) (c.loop-k.invariant.places code places own has));
      few = c.in_ok-count_class.ensures.few;
      count = omega (arith, counted.classes_are, c.loop-k.invariant.count);
    }

pub returns-clause-places : goal.returns-clause-places
returns-clause-places c =
    let range = c.args.range.now in
    let words : c.len-words.result ≡ length range.units = omega (arith, c.len-words.ensures) in
    let end : c.loop-k.k ≡ c.part_count-k-end.result = omega (arith, c.loop-k.auto.k-end, c.loop-k-test.false) in
    let all : c.loop-k.k ≡ share_count class_words (length range.units) = end ∙ c.part_count-k-end.ensures ∙ ap (share_count class_words) words in
    λ code places own has.
    subst (λ n. CountsPlaces c.args.metered code c.args.method_bytes (places ++ first_places (range_of range) n) c.loop-k.counts) all
    (c.loop-k.invariant.places code places own has)
