-- The methods of a class of code are typed.
use Rattle.std.proofs.Common.{◌≡◌, ℕ, ◌+◌, ◌<◌, ◌≤◌, false, List, [], ◌∷◌, length, All, refl, sym, subst, arith, below_more}
use Rattle.std.proofs.lemmas.List.FromFn.{length-map-range_with_len}
use Rattle.run_definition.specs.Words.{IsWord}
use Rattle.delay_slots.specs.Units.{HasNoFloat, units_of}
use Rattle.jvm_definition.specs.Program.{Program}
use Rattle.method_splitter.specs.declared.span.Span.{Span}
use Rattle.emit_spans.specs.declared.span_words.SpanWords.{SpanWords}
use Rattle.emit_spans.specs.Pieces.{flagged, span_of}
use Rattle.emit_types_laws.specs.Judging.{TakesGives}
use Rattle.emit_types_laws.specs.Knowing.{HelperTypes}
use Rattle.emit_types_laws.specs.Methods.{IsStart, owes_beginning}
use Rattle.emit_types_laws.specs.Spans.{SpanTyped, goals_of, owes_unknown}
use Rattle.translate_classes.specs.Code.{span_at, span_plan, span_plans, run_plan, start_at, starts_of, address}
use Rattle.translate_program.specs.Classes.{Placed, run_of}
use Rattle.nv_translate.specs.Linked.{IsPlanned, HasCodeClass}
use Rattle.nv_translate.proofs.TranslatedTypes.Lists.{left-of, last-of, counted-first, all-counted}
use Rattle.nv_translate.proofs.TranslatedTypes.Planned.{HasType, plan-quiet, quiet-typed}
use Rattle.nv_translate.proofs.TranslatedTypes.Lower.{TypingLaws}

-- The words of a class's range: they are words, none is of the floating-point coprocessor, and the spans of the class have some of them.
pub record HasWords (c : Placed) : Type 0 where
  pub words : List ℕ
  pub units_are : c.part.units.now ≡ units_of words
  pub are_words : All IsWord words
  pub no_float : HasNoFloat words
  pub within : All (λ (s : Span). c.part.first + s.first + s.words ≤ length words) c.spans

module _ (program : Program) (c : Placed) (has : HasCodeClass program c) where
  span-as : (k : ℕ) → k < length c.spans → IsPlanned program (c.first_method + k) (span_plan c.part c.spans has.spans_by k)
  span-as k below =
      has.planned k (span_plan c.part c.spans has.spans_by k)
      (left-of (span_plans c.part c.spans has.spans_by (length c.spans)) (run_plan c.part c.spans c.first_method has.run_by ∷ []) k
      (span_plan c.part c.spans has.spans_by k) (counted-first (span_plan c.part c.spans has.spans_by) (length c.spans) k below))

  run-as : IsPlanned program (run_of c) (run_plan c.part c.spans c.first_method has.run_by)
  run-as =
      has.planned (length c.spans) (run_plan c.part c.spans c.first_method has.run_by)
      (last-of (span_plans c.part c.spans has.spans_by (length c.spans)) (run_plan c.part c.spans c.first_method has.run_by) (length c.spans)
      (length-map-range_with_len (span_plan c.part c.spans has.spans_by) 0 (length c.spans)))

  pub run-takes : TakesGives program (run_of c) [] false
  run-takes = plan-quiet program (run_of c) (run_plan c.part c.spans c.first_method has.run_by) run-as refl

  starts-are : All (IsStart program) (starts_of c.part c.spans c.first_method (length c.spans))
  starts-are =
      all-counted (IsStart program) (start_at c.part c.spans c.first_method) 0 (length c.spans)
      (λ k low high. plan-quiet program (c.first_method + k) (span_plan c.part c.spans has.spans_by k) (span-as k (omega (arith, high))) refl)

  module _ (laws : TypingLaws) (helpers : HelperTypes program) (w : HasWords c) where
    run-typed : HasType program (run_of c)
    run-typed =
        quiet-typed laws.bodies program (run_of c) (run_plan c.part c.spans c.first_method has.run_by) owes_beginning run-as refl
        (laws.class program (starts_of c.part c.spans c.first_method (length c.spans)) (address c.part 0) (address c.part c.part.words) starts-are)

    span-typed : (k : ℕ) → k < length c.spans → HasType program (c.first_method + k)
    span-typed k below =
        let none : Span = record { first = 0; words = 0 } in
        let s : Span = span_at c.spans k in
        let span : SpanWords = span_of c.part.metered c.part.start (c.part.first + s.first) s.words in
        let own : SpanTyped program (units_of w.words) (flagged c.part.leads.now) span =
        laws.spans program w.words (flagged c.part.leads.now) span helpers w.are_words w.no_float (w.within k none below) in
        let typed : SpanTyped program c.part.units.now (flagged c.part.leads.now) span =
        subst (λ units. SpanTyped program units (flagged c.part.leads.now) span) (sym w.units_are) own in
        quiet-typed laws.bodies program (c.first_method + k) (span_plan c.part c.spans has.spans_by k)
        (owes_unknown (goals_of c.part.units.now (flagged c.part.leads.now) span)) (span-as k below) refl typed

    pub class-typed : (k : ℕ) → k < length c.spans + 1 → HasType program (c.first_method + k)
    class-typed = below_more (λ k. HasType program (c.first_method + k)) (length c.spans) span-typed run-typed
