-- The code of a piece calls no methods but helpers.
use Rattle.std.proofs.Common.{◌≡◌, ℕ, ◌<◌, ◌==◌, ◌||◌, Bool, true, false, if◌then◌else◌, List, [], ◌∷◌, map, refl, sym, ap, ◌∙◌, inl, inr, arith}
use Rattle.std.proofs.lemmas.Bool.{and_from, and_parts, cases_Bool, eqb-true, ltb-true}
use Rattle.std.proofs.lemmas.Bool.Decides.{nat_tests}
use Rattle.run_definition.specs.declared.order.Order.{Order}
use Rattle.delay_slots.specs.declared.unit.Unit.{Unit}
use Rattle.jvm_definition.specs.declared.instruction.Instruction.TheVariants.{Call}
use Rattle.class_definition.specs.Linking.{gives_int}
use Rattle.emit_steps.specs.declared.step.Step.{Step}
use Rattle.emit_steps.specs.declared.step.Step.TheVariants.{Does, Skips, Leaves, Selects}
use Rattle.emit_layout.specs.Helpers.{helper_descriptor}
use Rattle.mem_helpers.specs.Methods.{helper_code}
use Rattle.word_emitter.specs.declared.extent.Extent.{Extent}
use Rattle.emit_spans.specs.declared.span_words.SpanWords.{SpanWords}
use Rattle.emit_spans.specs.Pieces.{begins}
use Rattle.emit_spans.specs.Parts.{extent, warm_part, cold_part}
use Rattle.emit_spans.specs.Laying.{laid_step, targets_of, return_offset}
use Rattle.emit_spans.specs.Standing.{laid_part}
use Rattle.emit_paths_laws.specs.Classes.{entries}
use Rattle.emit_paths_laws.specs.Paths.{step_weight, weigh}
use Rattle.emit_program_laws.specs.SpanCodeLaws.Sites.{called_weight, whole_weight}
use Rattle.translate_classes_laws.specs.Naming.{all_well, step_names_well, is_fault, is_helper}
use Rattle.nv_translate.proofs.WarmTranslations.Staying.{is_other}

helper-none : (m : ℕ) → is_helper m ≡ true → entries is_other (Call m) ≡ 0
helper-none m is =
    let low = ltb-true m 20 is in
    let less : is_other m ≡ false = grind (arith, nat_tests) in
    ap (λ b. if b then 1 else 0) less

fault-helper : (m : ℕ) → is_fault m ≡ true → is_helper m ≡ true
fault-helper m is = elim (cases_Bool (m == 18)) [
  | inl same ↦ ap is_helper (eqb-true m 18 same)
  | inr other ↦
      let last : (m == 19) ≡ true = sym (ap (λ b. b || m == 19) other) ∙ is in
      ap is_helper (eqb-true m 19 last)
]

-- code that calls helpers alone counts no call of another method
module _ (class : ℕ) (gives : Bool) (calls : ℕ → Bool) (known : (m : ℕ) → calls m ≡ true → is_helper m ≡ true) where
  step-none : (s : Step) → step_names_well calls class gives s ≡ true → step_weight (entries is_other) s ≡ 0
  step-none (Does (Call m)) is = helper-none m (known m is)
  step-none (Does i) is = refl
  step-none (Skips name k) is = refl
  step-none (Leaves target) is = refl
  step-none (Selects s) is = refl

  pub code-none : (code : List Step) → all_well calls class gives code ≡ true → weigh (entries is_other) code ≡ 0
  code-none [] well = refl
  code-none (s ∷ code) well =
      let parts = and_parts (step_names_well calls class gives s) (all_well calls class gives code) well in
      let here = step-none s parts.0 in
      let rest = code-none code parts.1 in
      omega (arith, here, rest)

-- so it does with the helpers themselves
module _ (helpers : (order : Order) (class number : ℕ) → number < 20
    → all_well is_fault class (gives_int (helper_descriptor number)) (helper_code order number) ≡ true) (order : Order) (class : ℕ) (gives : Bool)
  where
    one-none : (h : ℕ) → h < 20 → weigh (entries is_other) (helper_code order h) ≡ 0
    one-none h low = code-none class (gives_int (helper_descriptor h)) is_fault fault-helper (helper_code order h) (helpers order class h low)

    called-none : (s : Step) → step_names_well is_helper class gives s ≡ true → called_weight order (entries is_other) s ≡ 0
    called-none (Does (Call h)) is =
        let own = one-none h (ltb-true h 20 is) in
        let reading = one-none 18 (omega arith) in
        let writing = one-none 19 (omega arith) in
        omega (arith, own, reading, writing)
    called-none (Does i) is = refl
    called-none (Skips name k) is = refl
    called-none (Leaves target) is = refl
    called-none (Selects s) is = refl

    pub whole-none : (code : List Step) → all_well is_helper class gives code ≡ true → whole_weight order code (entries is_other) ≡ 0
    whole-none [] well = refl
    whole-none (s ∷ code) well =
        let parts = and_parts (step_names_well is_helper class gives s) (all_well is_helper class gives code) well in
        let here = step-none class gives is_helper (λ m is. is) s parts.0 in
        let called = called-none s parts.0 in
        let rest = whole-none code parts.1 in
        omega (arith, here, called, rest)

    -- wherever it is laid down
    laid-well : (span : Extent) (targets : List ℕ) (otherwise : ℕ) (code : List Step) → all_well is_helper class gives code ≡ true
        → all_well is_helper class gives (map (laid_step span targets otherwise) code) ≡ true
    laid-well span targets otherwise [] well = refl
    laid-well span targets otherwise (s ∷ code) well =
        let parts = and_parts (step_names_well is_helper class gives s) (all_well is_helper class gives code) well in
        let laid = laid_step span targets otherwise in
        and_from (step_names_well is_helper class gives (laid s)) (all_well is_helper class gives (map laid code)) (one s parts.0)
        (laid-well span targets otherwise code parts.1)
      where
        one : (t : Step) → step_names_well is_helper class gives t ≡ true
            → step_names_well is_helper class gives (laid_step span targets otherwise t) ≡ true
        one (Does i) is = is
        one (Skips name k) is = refl
        one (Leaves target) is = refl
        one (Selects t) is = refl

    pub part-none : (units : List Unit) (leads : ℕ → Bool) (span : SpanWords) (k : ℕ) → begins leads span k ≡ true
        → all_well is_helper class gives (warm_part units leads span k) ≡ true
        → whole_weight order (laid_part units leads span k) (entries is_other) ≡ 0
    part-none units leads span k begin well =
        let laid = laid_step (extent span) (targets_of units leads span) (return_offset units leads span) in
        let warm : laid_part units leads span k ≡ map laid (warm_part units leads span k) =
        ap (λ b. map laid (if b then warm_part units leads span k else cold_part units leads span k)) begin in
        ap (λ code. whole_weight order code (entries is_other)) warm
        ∙ whole-none (map laid (warm_part units leads span k))
        (laid-well (extent span) (targets_of units leads span) (return_offset units leads span) (warm_part units leads span k) well)
