use Rattle.std.proofs.Common.{◌≡◌, ◌++◌, length, refl, ap, sym, ◌∙◌, subst, arith}
use Rattle.std.proofs.lemmas.List.{append-nil, length_push}
use Rattle.method_splitter.specs.Shares.{share_count}
use Rattle.translate_classes.specs.Parts.{IsCode}
use Rattle.translate_program.specs.Parts.{IsLow, IsPartOf}
use Rattle.translate_program.specs.Places.{class_words, place_at, first_places}
use Rattle.translate_program.specs.Ranges.{range_of}
use Rattle.translate_program.specs.Adding.{HasPlaces}
use Rattle.translate_program.proofs.CodeFiles.PlaceLemmas.{place-more, kept-coded, kept-low, part-at}
use Rattle.translate_program.proofs.CodeFiles.ClassLemmas.{class-more}
use Rattle.translate_program.proofs.code_files.add_range.Goals as goal

pub keep_part-requires-clause-units : goal.keep_part-requires-clause-units
keep_part-requires-clause-units c =
    let words : c.len-words.result ≡ length c.args.range.units = omega (arith, c.len-words.ensures) in
    ap length c.loop-k.invariant.units ∙ sym words

pub part_at-part-requires-clause-low : goal.part_at-part-requires-clause-low
part_at-part-requires-clause-low c =
    let range = c.args.range in
    let kept = c.keep_part.ensures in
    let words : c.len-words.result ≡ length range.units = omega (arith, c.len-words.ensures) in
    kept-low range c.keep_part.new.range c.len-words.result (kept.units ∙ c.loop-k.invariant.units) (kept.leads ∙ c.loop-k.invariant.leads)
    (kept.start ∙ c.loop-k.invariant.start) (subst (IsLow range) (sym words) c.requires.low)

pub add_class-requires-clause-code : goal.add_class-requires-clause-code
add_class-requires-clause-code c =
    subst IsCode (sym (c.part_at-part.ensures.value.units_are ∙ c.keep_part.ensures.units ∙ c.loop-k.invariant.units)) c.requires.code

pub add_class-requires-clause-classes : goal.add_class-requires-clause-classes
add_class-requires-clause-classes c =
    let words : c.len-words.result ≡ length c.args.range.units = omega (arith, c.len-words.ensures) in
    omega (arith, c.loop-k.invariant.count, c.loop-k-test.true, c.part_count-k-end.ensures, ap (share_count class_words) words, c.requires.classes)

pub loop-k-init : goal.loop-k-init
loop-k-init c = record {
  places = λ words places own has.
      subst (λ l. HasPlaces c.args.metered words c.args.name.now c.args.method_bytes l c.args.code.now) (sym (append-nil places)) has;
  few = c.requires.few;
  told = refl;
  count = omega arith;
  units = refl;
  leads = refl;
  start = refl;
}

pub loop-k-preserved : goal.loop-k-preserved
loop-k-preserved c =
    let range = c.args.range in
    let k = c.loop-k.k in
    let part = c.part_at-part.result in
    let kept = c.keep_part.ensures in
    let new = c.keep_part.new.range in
    let units = kept.units ∙ c.loop-k.invariant.units in
    let leads = kept.leads ∙ c.loop-k.invariant.leads in
    let start = kept.start ∙ c.loop-k.invariant.start in
    let count : c.len-words.result ≡ length range.units = omega (arith, c.len-words.ensures) in
    let is = subst (λ n. IsPartOf c.args.metered new n k part) count c.part_at-part.ensures.value in
    let added = c.in_ok-add_class.ensures.added in
    record {
      places = λ words places own has.
          subst (λ l. HasPlaces c.args.metered words c.args.name.now c.args.method_bytes l c.add_class.new.code) (sym (place-more places (range_of range) k))
          (class-more c.args.metered words c.args.name.now c.args.method_bytes part c.loop-k.code c.add_class.new.code
          (places ++ first_places (range_of range) k) (place_at (range_of range) k) added is.metered_is
          (part-at c.args.metered words (range_of range) new k part (kept-coded words (range_of range) range new units leads own.coded) start is)
          (c.loop-k.invariant.places words places own has));
      few = c.in_ok-add_class.ensures.few;
      told = added.told_is ∙ c.loop-k.invariant.told;
      count = omega (arith, ap length added.files_are, length_push c.loop-k.code.files.items added.file, c.loop-k.invariant.count);
      units = units;
      leads = leads;
      start = start;
    }

pub returns-clause-places : goal.returns-clause-places
returns-clause-places c =
    let range = c.args.range in
    let words : c.len-words.result ≡ length range.units = omega (arith, c.len-words.ensures) in
    let end : c.loop-k.k ≡ c.part_count-k-end.result = omega (arith, c.loop-k.auto.k-end, c.loop-k-test.false) in
    let all : c.loop-k.k ≡ share_count class_words (length range.units) = end ∙ c.part_count-k-end.ensures ∙ ap (share_count class_words) words in
    λ code places own has.
    subst (λ n. HasPlaces c.args.metered code c.args.name.now c.args.method_bytes (places ++ first_places (range_of range) n) c.loop-k.code) all
    (c.loop-k.invariant.places code places own has)
