use Rattle.std.proofs.Common.{◌≡◌, ◌≤◌, ◌++◌, ◌∷◌, [], length, map, take, get_or, All, ap, sym, ◌∙◌, subst}
use Rattle.std.proofs.lemmas.List.{map_push, take_all, take_more}
use Rattle.std.proofs.lemmas.List.Elements.{All-nil, All-push}
use Rattle.elf_definition.specs.Area.{area}
use Rattle.elf_definition.specs.Fault.{IsRunsOf}
use Rattle.elf_definition.specs.declared.range.Range.{Range}
use Rattle.elf_definition.specs.Start.{image_of}
use Rattle.elf_image.specs.Whole.{IsWholeRange}
use Rattle.elf_image_parts.specs.Ranges.{IsRangeCode}
use Rattle.translate_program.specs.Places.{places_of}
use Rattle.translate_program.specs.Ranges.{IsRangeOf, range_of}
use Rattle.translate_program.proofs.CodeFiles.RangeLemmas.{range-is}
use Rattle.translate_program.proofs.Counts.PlaceLemmas.{places-most, places-some}
use Rattle.translate_program.proofs.ranges.ranges_of.Goals as goal

pub loop-range-init : goal.loop-range-init
loop-range-init c =
    let Is = IsRangeOf (image_of c.args.image.now).code in
    record {
      ranges = ap (map range_of) c.new-items.ensures.items;
      each = subst (All Is) (sym c.new-items.ensures.items) (All-nil Is);
    }

pub loop-range-preserved : goal.loop-range-preserved
loop-range-preserved c =
    let code = (image_of c.args.image.now).code in
    let ranges = c.ranges-range-items.result.now in
    let k = c.loop-range.range-index in
    let less = c.loop-range-test.true in
    let d : Range = record { first = 0; words = 0 } in
    let before = c.loop-range.items.items in
    let made = c.in_ok-code.code in
    let pushed = c.in_ok-push.ensures.items in
    let is : range_of made ≡ get_or ranges k d = range-is made (get_or ranges k d) c.in_ok-code.ensures.start c.in_ok-code.ensures.count in
    let own : IsRangeOf code made = record {
      coded = subst (λ r. IsRangeCode code r made.units made.leads.items) (sym is) c.in_ok-code.ensures.code;
      whole = subst (IsWholeRange code) (sym is) (c.laws.ensures.whole ranges c.ranges-range-items.ensures k d less);
    } in
    record {
      ranges =
          ap (map range_of) pushed
          ∙ map_push range_of before made
          ∙ ap (λ l. l ++ range_of made ∷ []) c.loop-range.invariant.ranges
          ∙ ap (λ r. take k ranges ++ r ∷ []) is
          ∙ sym (take_more ranges k d less);
      each = subst (All (IsRangeOf code)) (sym pushed) (All-push (IsRangeOf code) before made c.loop-range.invariant.each own);
    }

pub returns-clause-ranges : goal.returns-clause-ranges
returns-clause-ranges c =
    let source = c.args.image.now in
    let ranges = c.ranges-range-items.result.now in
    let runs = c.ranges-range-items.ensures in
    let laws = c.laws.ensures in
    let all : map range_of c.loop-range.items.items ≡ ranges =
    c.loop-range.invariant.ranges ∙ take_all c.loop-range.range-index ranges c.loop-range-test.false in
    record {
      ranges_are = subst (IsRunsOf (area source.file)) (sym all) runs;
      each = c.loop-range.invariant.each;
      some = subst (λ l. 1 ≤ length (places_of l)) (sym all) (places-some (image_of source).code ranges (laws.whole ranges runs) (laws.some ranges runs));
      few = subst (λ l. length (places_of l) ≤ 235) (sym all) (places-most ranges (laws.words ranges runs) (laws.runs ranges runs));
    }
