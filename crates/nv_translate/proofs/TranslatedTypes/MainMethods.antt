-- The methods of the main class are typed.
use Rattle.std.proofs.Common.{◌≡◌, ℕ, ◌+◌, ◌<◌, ◌≤◌, ◌||◌, ◌&&◌, nat_lt, nat_le, if◌then◌else◌, Bool, true, false, List, [], ◌∷◌, length, slice_get, Some, All, refl, subst, arith, below_none, below_more}
use Rattle.jvm_definition.specs.declared.kind.Kind.TheVariants.{Int, Text}
use Rattle.jvm_definition.specs.Program.{Program}
use Rattle.class_definition.specs.NameGrammar.{after_field}
use Rattle.class_definition.specs.Linking.{parameters_of, parameters_from, gives_int}
use Rattle.emit_layout.specs.Helpers.{helper_descriptor}
use Rattle.emit_layout.specs.Numbers.{run_number, choose_number, pages_number, missing_number}
use Rattle.emit_assembly.specs.declared.references.References.{References}
use Rattle.emit_program_laws.specs.SpanCodeLaws.Helpers.{helper_parameters}
use Rattle.emit_types_laws.specs.Judging.{TakesGives}
use Rattle.emit_types_laws.specs.Knowing.{HelperTypes, helper_gives}
use Rattle.emit_types_laws.specs.Methods.{IsStart, owes_nothing, owes_beginning, owes_pages}
use Rattle.translate_classes.specs.Making.{Plan}
use Rattle.translate_classes.specs.declared.content.MainClass.{MainClass}
use Rattle.translate_classes.specs.Called.{pages_descriptor}
use Rattle.translate_classes.specs.Content.{has_meter}
use Rattle.translate_classes.specs.Main.{helper_plan, helper_plans, run_plan, choose_plan, pages_plan, missing_plan, other_plans, main_plans}
use Rattle.nv_translate.specs.Linked.{IsPlanned, ArePlanned}
use Rattle.nv_translate.proofs.TranslatedTypes.Lists.{left-of, counted-first}
use Rattle.nv_translate.proofs.TranslatedTypes.Planned.{HasType, plan-takes, plan-typed, plan-quiet, quiet-typed}
use Rattle.nv_translate.proofs.TranslatedTypes.Lower.{TypingLaws}

-- ---- the descriptors of the helper methods

abbrev HasDescriptor : ℕ → Type 0
HasDescriptor number =
    (parameters_of (helper_descriptor number) ≡ helper_parameters number) × (gives_int (helper_descriptor number) ≡ helper_gives number)

have-descriptors : (number : ℕ) → number < 20 → HasDescriptor number
unfolding parameters_from after_field
have-descriptors =
    below_more HasDescriptor 19
    (below_more HasDescriptor 18
    (below_more HasDescriptor 17
    (below_more HasDescriptor 16
    (below_more HasDescriptor 15
    (below_more HasDescriptor 14
    (below_more HasDescriptor 13
    (below_more HasDescriptor 12
    (below_more HasDescriptor 11
    (below_more HasDescriptor 10
    (below_more HasDescriptor 9
    (below_more HasDescriptor 8
    (below_more HasDescriptor 7
    (below_more HasDescriptor 6
    (below_more HasDescriptor 5
    (below_more HasDescriptor 4
    (below_more HasDescriptor 3
    (below_more HasDescriptor 2
    (below_more HasDescriptor 1
    (below_more HasDescriptor 0 (below_none HasDescriptor) (refl, refl))
    (refl, refl))
    (refl, refl))
    (refl, refl))
    (refl, refl))
    (refl, refl))
    (refl, refl))
    (refl, refl))
    (refl, refl))
    (refl, refl))
    (refl, refl))
    (refl, refl))
    (refl, refl))
    (refl, refl))
    (refl, refl))
    (refl, refl))
    (refl, refl))
    (refl, refl))
    (refl, refl))
    (refl, refl)

few-of : (b : Bool) → length (if b then Int ∷ Int ∷ [] else Int ∷ Int ∷ Int ∷ []) ≤ 4
few-of true = omega arith
few-of false = omega arith

few-parameters : (number : ℕ) → length (helper_parameters number) ≤ 4
few-parameters number = few-of (nat_lt number 5 || (nat_le 12 number && nat_lt number 17))

text-taken : parameters_of pages_descriptor ≡ Text ∷ []
unfolding parameters_from after_field
text-taken = refl

-- ---- the methods

module _ (program : Program) (main : MainClass) (texts : List ℕ) (by : References) (planned : ArePlanned program 0 (main_plans main texts by)) where
  planned-as : (number : ℕ) (p : Plan) → slice_get (main_plans main texts by) number ≡ Some p → IsPlanned program number p
  planned-as number p at = let e : 0 + number ≡ number = omega arith in subst (λ n. IsPlanned program n p) e (planned number p at)

  helper-as : (number : ℕ) → number < 20 → IsPlanned program number (helper_plan main.beginning.order by number)
  helper-as number below =
      planned-as number (helper_plan main.beginning.order by number)
      (left-of (helper_plans main.beginning.order by 20) (other_plans main texts by) number (helper_plan main.beginning.order by number)
      (counted-first (helper_plan main.beginning.order by) 20 number below))

  pub helper-types : HelperTypes program
  helper-types number below =
      let h = have-descriptors number below in
      plan-takes program number (helper_plan main.beginning.order by number) (helper_parameters number) (helper_gives number)
      (helper-as number below) h.0 h.1

  choose-as : IsPlanned program choose_number (choose_plan main by)
  choose-as = planned-as choose_number (choose_plan main by) refl

  pages-as : IsPlanned program pages_number (pages_plan by)
  pages-as = planned-as pages_number (pages_plan by) refl

  missing-as : IsPlanned program missing_number (missing_plan (has_meter main) by)
  missing-as = planned-as missing_number (missing_plan (has_meter main) by) refl

  pub missing-takes : TakesGives program missing_number [] false
  missing-takes = plan-quiet program missing_number (missing_plan (has_meter main) by) missing-as refl

  module _ (laws : TypingLaws) where
    helper-typed : (number : ℕ) → number < 20 → HasType program number
    helper-typed number below =
        plan-typed laws.bodies program number (helper_plan main.beginning.order by number) owes_nothing (helper_parameters number)
        (helper-as number below) (have-descriptors number below).0 (few-parameters number)
        (laws.helpers main.beginning.order program helper-types number below)

    run-typed : All (λ (m : ℕ). TakesGives program m [] false) main.data.now → HasType program run_number
    run-typed fills =
        quiet-typed laws.bodies program run_number (run_plan main texts by) owes_nothing (planned-as run_number (run_plan main texts by) refl) refl
        (laws.run program main.meter main.beginning texts 0 pages_number main.data.now choose_number
        (plan-takes program pages_number (pages_plan by) (Text ∷ []) false pages-as text-taken refl) fills
        (plan-quiet program choose_number (choose_plan main by) choose-as refl))

    choose-typed : All (IsStart program) main.starts.now → HasType program choose_number
    choose-typed starts =
        quiet-typed laws.bodies program choose_number (choose_plan main by) owes_beginning choose-as refl
        (laws.main program main.starts.now missing_number missing-takes starts)

    pages-typed : HasType program pages_number
    pages-typed =
        plan-typed laws.bodies program pages_number (pages_plan by) owes_pages (Text ∷ []) pages-as text-taken (omega arith) (laws.pages program)

    missing-typed : HasType program missing_number
    missing-typed = quiet-typed laws.bodies program missing_number (missing_plan (has_meter main) by) owes_nothing missing-as refl (laws.missing program (has_meter main))

    pub main-typed : All (IsStart program) main.starts.now → All (λ (m : ℕ). TakesGives program m [] false) main.data.now
        → (m : ℕ) → m < 24 → HasType program m
    main-typed starts fills =
        below_more (HasType program) 23
        (below_more (HasType program) 22
        (below_more (HasType program) 21 (below_more (HasType program) 20 helper-typed (run-typed fills)) (choose-typed starts)) pages-typed)
        missing-typed
