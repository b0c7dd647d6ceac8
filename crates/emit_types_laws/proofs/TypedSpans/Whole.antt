-- The whole method of a span.
use Rattle.std.proofs.Common.{◌≡◌, ℕ, suc, ◌-◌, ◌<◌, ◌≤◌, Bool, true, List, [], ◌∷◌, ◌++◌, All, length, get_or, refl, sym, ap, subst, ◌∙◌, arith}
use Rattle.std.specs.List.{list_all}
use Rattle.std.proofs.lemmas.Bool.{and_parts}
use Rattle.std.proofs.lemmas.List.Elements.{All-append, All-filter, filter_passes}
use Rattle.std.proofs.lemmas.List.Folds.{list_all-append}
use Rattle.std.proofs.lemmas.List.FromFn.{get_or-range_with_len, length-range_with_len}
use Rattle.delay_slots.specs.declared.unit.Unit.{Unit}
use Rattle.delay_slots.specs.Units.{units_of}
use Rattle.jvm_definition.specs.Program.{Program}
use Rattle.emit_steps.specs.Returning.{returns}
use Rattle.block_builder.specs.Blocks.{AreUnits}
use Rattle.emit_simulation_laws.specs.Lawful.{IsLawful}
use Rattle.emit_spans.specs.declared.span_words.SpanWords.{SpanWords}
use Rattle.emit_spans.specs.Keeping.{keeps_to}
use Rattle.emit_spans.specs.Pieces.{all_words, begins}
use Rattle.emit_spans.specs.Neighbours.{address, is_inner}
use Rattle.emit_spans.specs.Parts.{extent, warm_part, cold_part}
use Rattle.emit_spans.specs.Laying.{warm_before, cold_before, targets_of, return_offset, span_code}
use Rattle.emit_spans.specs.Locals.{locals_of}
use Rattle.emit_spans.specs.Laws.{PiecesAreOfBlocks, WordsKeepToTheirSpan}
use Rattle.emit_types_laws.specs.Judging.{Rules, Leads}
use Rattle.emit_types_laws.specs.Bodies.{BodyTypes}
use Rattle.emit_types_laws.proofs.TypedSteps.Assembling.{parts-body}
use Rattle.emit_types_laws.proofs.TypedSteps.Flow.{flows-from}
use Rattle.emit_types_laws.specs.Knowing.{HelperTypes, unknown}
use Rattle.emit_types_laws.specs.Laws.{ColdPartsAreTyped, GuardsAreTyped, WarmPartsAreTyped}
use Rattle.emit_types_laws.specs.Spans.{SpanTyped, goals_of}
use Rattle.emit_types_laws.proofs.TypedSpans.Names.{names-within}
use Rattle.emit_types_laws.proofs.TypedSpans.Places.{code-is, owed-between, front, part, warm_words, cold_words, warm-is, cold-is}
use Rattle.emit_types_laws.proofs.TypedSpans.Fronts.{going_to, front-leads}
use Rattle.emit_types_laws.proofs.TypedSpans.Parts.{each-keeps, laid-leads, cold-part-leads, warm-part-leads}

pub units-length : (words : List ℕ) → length (units_of words) ≡ length words
units-length [] = refl
units-length (word ∷ words) = ap suc (units-length words)

-- a word of the span is below its end
words-below : (span : SpanWords) → All (λ k. k < span.end) (all_words span)
words-below span i d less =
    let count = length-range_with_len span.first (span.end - span.first) in
    let few : i < span.end - span.first = omega (arith, count, less) in
    let is = get_or-range_with_len span.first (span.end - span.first) i d few in
    omega (arith, is, few)

-- what the laws of lower crates say
pub record PartLaws : Type 0 where
  pub warm : WarmPartsAreTyped
  pub cold : ColdPartsAreTyped
  pub guards : GuardsAreTyped
  pub keep : WordsKeepToTheirSpan
  pub pieces : PiecesAreOfBlocks

module _ (laws : PartLaws) (program : Program) (helpers : HelperTypes program) (units : List Unit) (are : AreUnits units) (lawful : All IsLawful units)
    (leads : ℕ → Bool) (span : SpanWords) (within : span.end ≤ length units) where
  abbrev rules : Rules
  rules = going_to program (goals_of units leads span)

  keeping : (list_all (keeps_to (extent span)) (warm_before units leads span span.end) ≡ true)
      × (list_all (keeps_to (extent span)) (cold_before units leads span span.end) ≡ true)
  keeping =
      let warm = warm_before units leads span span.end in
      let cold = cold_before units leads span span.end in
      and_parts (list_all (keeps_to (extent span)) warm) (list_all (keeps_to (extent span)) cold)
      (sym (list_all-append (keeps_to (extent span)) warm cold) ∙ laws.keep units leads span)

  warm-leads : (k : ℕ) → begins leads span k ≡ true → k < span.end → list_all (keeps_to (extent span)) (warm_part units leads span k) ≡ true
      → Leads rules (part units leads span k) unknown unknown
  warm-leads k is below keeps =
      subst (λ code. Leads rules code unknown unknown) (sym (warm-is units leads span k is))
      (laid-leads program (extent span) (targets_of units leads span) (return_offset units leads span) (warm_part units leads span k) keeps
      (warm-part-leads program helpers laws.warm laws.cold laws.guards units lawful leads span within k below
      (laws.pieces units leads span k are below within)))

  cold-leads : (k : ℕ) → is_inner leads span k ≡ true → list_all (keeps_to (extent span)) (cold_part units leads span k) ≡ true
      → Leads rules (part units leads span k) unknown unknown
  cold-leads k is keeps =
      subst (λ code. Leads rules code unknown unknown) (sym (cold-is units leads span k is))
      (laid-leads program (extent span) (targets_of units leads span) (return_offset units leads span) (cold_part units leads span k) keeps
      (cold-part-leads program helpers laws.warm laws.cold laws.guards units lawful leads span within k))

  all-warm : All (λ k. Leads rules (part units leads span k) unknown unknown) (warm_words units leads span)
  all-warm i d less =
      let ks = warm_words units leads span in
      warm-leads (get_or ks i d) (filter_passes (begins leads span) (all_words span) i d less)
      (All-filter (begins leads span) (λ k. k < span.end) (all_words span) (words-below span) i d less)
      (each-keeps (keeps_to (extent span)) (warm_part units leads span) ks keeping.0 i d less)

  all-cold : All (λ k. Leads rules (part units leads span k) unknown unknown) (cold_words units leads span)
  all-cold i d less =
      let ks = cold_words units leads span in
      cold-leads (get_or ks i d) (filter_passes (is_inner leads span) (all_words span) i d less)
      (each-keeps (keeps_to (extent span)) (cold_part units leads span) ks keeping.1 i d less)

  body-typed : BodyTypes rules (span_code units leads span) unknown
  body-typed =
      let targets = targets_of units leads span in
      let otherwise = return_offset units leads span in
      let warm = warm_words units leads span in
      let cold = cold_words units leads span in
      subst (λ code. BodyTypes rules code unknown) (sym (code-is units leads span))
      (parts-body rules (front units leads span) (part units leads span) (warm ++ cold) (returns ∷ []) unknown unknown (record {
        begins = front-leads program targets otherwise (address span span.first);
        between = All-append (λ k. Leads rules (part units leads span k) unknown unknown) warm cold all-warm all-cold;
        ends = flows-from rules (returns ∷ []) unknown [] (tt, tt);
        owed = owed-between units leads span;
      }))

  pub span-typed : SpanTyped program units leads span
  span-typed = record {
    names = names-within (locals_of (span_code units leads span)) (span_code units leads span) (omega arith);
    types = body-typed;
  }
