use Rattle.std.proofs.Common.{◌≡◌, List, length, map, take, refl, ap, sym, ◌∙◌, subst, arith}
use Rattle.std.proofs.lemmas.List.{map-id}
use Rattle.std.proofs.lemmas.Iterator.Adapters.{YieldsList-from_vec}
use Rattle.std.proofs.lemmas.Iterator.Consumers.{YieldsList-end, YieldsList-so_far, YieldsList-turn}
use Rattle.elf_definition.specs.Start.{image_of}
use Rattle.elf_image_parts.specs.declared.code.RangeCode.{RangeCode}
use Rattle.method_splitter.specs.Shares.{share_count}
use Rattle.translate_program.specs.Places.{class_words, places_of}
use Rattle.translate_program.specs.Ranges.{IsRangeOf, range_of}
use Rattle.translate_program.specs.Classes.{ArePlaced}
use Rattle.translate_program.specs.Adding.{HasPlaces}
use Rattle.translate_program.proofs.CodeFiles.RangeLemmas.{code-lawful, code-low, places-next, places-push}
use Rattle.translate_program.proofs.CodeFiles.ClassLemmas.{no-places}
use Rattle.translate_program.proofs.Counts.PlaceLemmas.{places-count}
use Rattle.translate_program.proofs.code_files.code_of.Goals as goal

pub loop-range-init : goal.loop-range-init
loop-range-init c = record {
  places =
      no-places c.args.metered (image_of c.args.ranges.image.value).code c.args.name.now c.args.method_bytes _ c.new.ensures.items c.new-4.ensures.items
      c.new-5.ensures.items c.new-2.ensures.items c.new-3.ensures.items refl;
  few = record {
    spans = omega (arith, ap length c.new-2.ensures.items);
    methods = omega arith;
  };
  told = refl;
}

pub add_range-requires : goal.add_range-requires
add_range-requires c =
    let code = (image_of c.args.ranges.image.value).code in
    let codes = c.args.ranges.items.items in
    let told = c.loop-range.yielded in
    let range = c.in-Some.range in
    let gives = c.into_iter-range-iterator.ensures.into_iter_gives in
    let road = YieldsList-from_vec {s = c.into_iter-range-iterator.result} codes gives.0 (gives.1 ∙ c.args.ranges.items.ok.0) in
    let turn =
    YieldsList-turn road told c.loop-range.range-iterator c.loop-range.yielded_by c.next.result c.next.new.self range c.in-Some.is c.next.ensures.steps in
    let so_far : told ≡ take (length told) codes =
    sym (map-id told) ∙ YieldsList-so_far road told c.loop-range.range-iterator c.loop-range.yielded_by in
    let own = subst (IsRangeOf code) (sym turn.1) (c.requires.each (length told) range turn.0) in
    let count =
    places-count c.args.metered code c.args.name.now c.args.method_bytes (places_of (map range_of told)) c.loop-range.code c.loop-range.invariant.places in
    record {
      code = code-lawful code range own;
      low = code-low code range own;
      classes =
          omega (
            arith,
            count,
            ap (λ (l : List RangeCode). length (places_of (map range_of l))) so_far,
            places-next codes (length told) range turn.0,
            ap (λ (r : RangeCode). share_count class_words (length r.units)) turn.1,
            c.requires.few,
          );
      few = c.loop-range.invariant.few;
    }

pub loop-range-preserved : goal.loop-range-preserved
loop-range-preserved c =
    let code = (image_of c.args.ranges.image.value).code in
    let codes = c.args.ranges.items.items in
    let told = c.loop-range.yielded in
    let range = c.in-Some.range in
    let gives = c.into_iter-range-iterator.ensures.into_iter_gives in
    let road = YieldsList-from_vec {s = c.into_iter-range-iterator.result} codes gives.0 (gives.1 ∙ c.args.ranges.items.ok.0) in
    let turn =
    YieldsList-turn road told c.loop-range.range-iterator c.loop-range.yielded_by c.next.result c.next.new.self range c.in-Some.is c.next.ensures.steps in
    let own = subst (IsRangeOf code) (sym turn.1) (c.requires.each (length told) range turn.0) in
    let added = c.in_ok-add_range.ensures in
    record {
      places =
          subst (λ places. HasPlaces c.args.metered code c.args.name.now c.args.method_bytes places c.add_range.new.code) (sym (places-push told range))
          (added.places code (places_of (map range_of told)) own c.loop-range.invariant.places);
      few = added.few;
      told = added.told ∙ c.loop-range.invariant.told;
    }

pub returns-clause-code : goal.returns-clause-code
returns-clause-code c =
    let code = (image_of c.args.ranges.image.value).code in
    let codes = c.args.ranges.items.items in
    let told = c.loop-range.yielded in
    let gives = c.into_iter-range-iterator.ensures.into_iter_gives in
    let road = YieldsList-from_vec {s = c.into_iter-range-iterator.result} codes gives.0 (gives.1 ∙ c.args.ranges.items.ok.0) in
    let end =
    YieldsList-end road told c.loop-range.range-iterator c.loop-range.yielded_by c.next.result c.next.new.self c.in-None.is c.next.ensures.steps in
    let all : told ≡ codes = sym (map-id told) ∙ end.0 in
    let has = c.loop-range.invariant.places in
    record {
      classes = has.classes;
      classes_are = record {
        ranges = map range_of codes;
        ranges_are = c.requires.ranges_are;
        placed = subst (λ l. ArePlaced c.args.metered code c.args.method_bytes (places_of (map range_of l)) has.classes) all has.placed;
      };
      told = has.told;
    }

pub returns-clause-some : goal.returns-clause-some
returns-clause-some c =
    let code = (image_of c.args.ranges.image.value).code in
    let codes = c.args.ranges.items.items in
    let told = c.loop-range.yielded in
    let gives = c.into_iter-range-iterator.ensures.into_iter_gives in
    let road = YieldsList-from_vec {s = c.into_iter-range-iterator.result} codes gives.0 (gives.1 ∙ c.args.ranges.items.ok.0) in
    let end =
    YieldsList-end road told c.loop-range.range-iterator c.loop-range.yielded_by c.next.result c.next.new.self c.in-None.is c.next.ensures.steps in
    let all : told ≡ codes = sym (map-id told) ∙ end.0 in
    let count =
    places-count c.args.metered code c.args.name.now c.args.method_bytes (places_of (map range_of told)) c.loop-range.code c.loop-range.invariant.places in
    omega (arith, count, ap (λ (l : List RangeCode). length (places_of (map range_of l))) all, c.requires.some)

pub returns-clause-few : goal.returns-clause-few
returns-clause-few c =
    let code = (image_of c.args.ranges.image.value).code in
    let codes = c.args.ranges.items.items in
    let told = c.loop-range.yielded in
    let gives = c.into_iter-range-iterator.ensures.into_iter_gives in
    let road = YieldsList-from_vec {s = c.into_iter-range-iterator.result} codes gives.0 (gives.1 ∙ c.args.ranges.items.ok.0) in
    let end =
    YieldsList-end road told c.loop-range.range-iterator c.loop-range.yielded_by c.next.result c.next.new.self c.in-None.is c.next.ensures.steps in
    let all : told ≡ codes = sym (map-id told) ∙ end.0 in
    let count =
    places-count c.args.metered code c.args.name.now c.args.method_bytes (places_of (map range_of told)) c.loop-range.code c.loop-range.invariant.places in
    omega (arith, count, ap (λ (l : List RangeCode). length (places_of (map range_of l))) all, c.requires.few)

pub returns-clause-methods : goal.returns-clause-methods
returns-clause-methods c = omega (arith, returns-clause-few c, c.loop-range.invariant.few.methods)
