-- One class of a translation.
use Rattle.std.proofs.Common.{◌≡◌, ℕ, suc, ◌+◌, ◌*◌, ◌%◌, ◌<◌, ◌≤◌, Bool, true, false, not, ◌&&◌, List, [], ◌∷◌, ◌++◌, length, slice_get, get_or, Option, Some, refl, ap, sym, subst, ◌∙◌, arith}
use Rattle.std.specs.List.{list_all}
use Rattle.std.proofs.lemmas.List.Elements.{All-from_get_or}
use Rattle.std.proofs.lemmas.List.FromFn.{length-map-range_with_len}
use Rattle.std.proofs.lemmas.Option.{slice_get-get_or}
use Rattle.run_definition.specs.Words.{IsWord}
use Rattle.mips_definition.specs.Table.{is_float}
use Rattle.delay_slots.specs.Units.{units_of}
use Rattle.delay_slots.specs.Turns.{HasRange}
use Rattle.elf_image.specs.Whole.{IsPlainWord}
use Rattle.jvm_definition.specs.Program.{Program}
use Rattle.emit_steps.specs.Placing.{LiesAt}
use Rattle.emit_spans.specs.Pieces.{flagged}
use Rattle.emit_spans.specs.Laying.{span_code}
use Rattle.emit_program_laws.specs.TrampolineLaws.Classes.{CodeClass, IsClass, HasClass, run_of, span_words}
use Rattle.translate_classes.specs.Code as codes
use Rattle.translate_program.specs.Places.{Place}
use Rattle.translate_program.specs.Classes.{Placed, IsPlaced}
use Rattle.nv_translate.specs.Linked.{HasCodeClass, IsPlanned}
use Rattle.nv_translate.specs.Standing.{class_of}
use Rattle.nv_translate.proofs.TranslatedMethods.Planned.{planned-method, planned-lies, left-of, right-of, counted-first}
use Rattle.nv_translate.proofs.TranslatedMethods.Cutting.{few-spans, joined-spans}
use Rattle.nv_translate.proofs.TranslatedMethods.Places.{IsGood}

none-floats : (words : List ℕ) → ((k : ℕ) → k < length words → is_float (get_or words k 0) ≡ false) → list_all (λ word. not (is_float word)) words ≡ true
none-floats [] none = refl
none-floats (w ∷ words) none =
    ap (λ b. not b && list_all (λ word. not (is_float word)) words) (none 0 (omega arith))
    ∙ none-floats words (λ k lt. none (suc k) (omega (arith, lt)))

module _ {metered : Bool} (code : ℕ → Option ℕ) (method_bytes : ℕ) (place : Place) (p : Placed) (is : IsPlaced metered code method_bytes place p) (good : IsGood code place) where
  abbrev pub words : List ℕ
  words = is.part_is.range_is.words

  abbrev pub class : CodeClass
  class = class_of p words

  pub count : length words ≡ place.range.words
  count = is.part_is.range_is.are_words.count

  plain : (k : ℕ) → k < length words → IsPlainWord (Some (get_or words k 0))
  plain k below =
      let lt : k < place.range.words = omega (arith, below, count) in
      subst IsPlainWord (is.part_is.range_is.are_words.each k lt) (good.whole.there k lt)

  is-class : 4096 ≤ method_bytes → IsClass class
  is-class large =
      let whole = good.whole in
      let part = is.part_is in
      record {
        are_words = All-from_get_or IsWord words 0 (λ k below. (plain k below).0);
        no_float = none-floats words (λ k below. (plain k below).1);
        aligned = ap (λ n. n % 4) part.start_is ∙ whole.aligned;
        low = omega (arith, part.start_is, whole.low, count);
        within = omega (arith, part.first_is, part.words_are, good.within, count);
        some = omega (arith, part.words_are, good.some);
        few = few-spans p.part method_bytes p.spans large (omega (arith, part.words_are, good.short)) is.spans_are.cuts is.spans_are.fills;
        joined = joined-spans p.part method_bytes p.spans is.spans_are.cuts;
      }

  pub has-range : HasRange code class.start words
  has-range =
      let whole = good.whole in
      let part = is.part_is in
      record {
        aligned = ap (λ n. n % 4) part.start_is ∙ whole.aligned;
        below_end = omega (arith, part.start_is, whole.low, count);
        are_words = λ k below. (plain k below).0;
        there = λ k below.
            ap (λ n. code (n + 4 * k)) part.start_is ∙ part.range_is.are_words.each k (omega (arith, below, count))
            ∙ sym (slice_get-get_or words k 0 below);
        ends = ap (λ n. code (n + 4 * length words)) part.start_is ∙ ap (λ n. code (place.range.first + 4 * n)) count ∙ whole.ends;
      }

  module _ (program : Program) (has : HasCodeClass program p) where
    span-planned : (j : ℕ) → j < length p.spans → IsPlanned program (p.first_method + j) (codes.span_plan p.part p.spans has.spans_by j)
    span-planned j below =
        has.planned j (codes.span_plan p.part p.spans has.spans_by j)
        (left-of (codes.span_plans p.part p.spans has.spans_by (length p.spans)) (codes.run_plan p.part p.spans p.first_method has.run_by ∷ []) j
        (codes.span_plan p.part p.spans has.spans_by j)
        (counted-first (codes.span_plan p.part p.spans has.spans_by) (length p.spans) j below))

    run-planned : IsPlanned program (p.first_method + length p.spans) (codes.run_plan p.part p.spans p.first_method has.run_by)
    run-planned =
        let run = codes.run_plan p.part p.spans p.first_method has.run_by in
        let plans = codes.span_plans p.part p.spans has.spans_by (length p.spans) in
        let long : length plans + 0 ≡ length p.spans = omega (arith, length-map-range_with_len (codes.span_plan p.part p.spans has.spans_by) 0 (length p.spans)) in
        has.planned (length p.spans) run
        (ap (slice_get (plans ++ run ∷ [])) (sym long) ∙ right-of plans (run ∷ []) 0)

    span-lies : (j : ℕ) → j < length p.spans
        → LiesAt program (p.first_method + j) 0 (span_code (units_of words) (flagged p.part.leads.now) (span_words class j))
    span-lies j below =
        subst (λ units. LiesAt program (p.first_method + j) 0 (span_code units (flagged p.part.leads.now) (span_words class j)))
        is.part_is.range_is.units_are
        (planned-lies program (p.first_method + j) (codes.span_plan p.part p.spans has.spans_by j) (span-planned j below))

    pub has-class : 4096 ≤ method_bytes → HasClass program class
    has-class large = record {
      is_class = is-class large;
      spans_are = λ j below. planned-method program (p.first_method + j) (codes.span_plan p.part p.spans has.spans_by j) (span-planned j below) refl;
      spans_lie = λ j below. span-lies j below;
      run_is = planned-method program (run_of class) (codes.run_plan p.part p.spans p.first_method has.run_by) run-planned refl;
      run_lies = planned-lies program (run_of class) (codes.run_plan p.part p.spans p.first_method has.run_by) run-planned;
    }
