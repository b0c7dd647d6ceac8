-- The methods of the main class.
use Rattle.std.proofs.Common.{◌≡◌, ℕ, ◌+◌, ◌<◌, List, map, slice_get, Some, refl, ap, sym, ◌∙◌, arith, subst}
use Rattle.std.specs.List.{range_with_len}
use Rattle.std.proofs.lemmas.Option.{same_Some}
use Rattle.jvm_definition.specs.Program.{Program}
use Rattle.class_definition.specs.NameGrammar.{after_field}
use Rattle.class_definition.specs.Linking.{parameters_of, parameters_from}
use Rattle.emit_steps.specs.Placing.{LiesAt}
use Rattle.emit_layout.specs.Helpers.{helper_descriptor}
use Rattle.emit_layout.specs.Numbers.{choose_number, missing_number}
use Rattle.mem_helpers.specs.Methods.{helper_code}
use Rattle.trampoline.specs.Choosers.{main_chooser, missing_method}
use Rattle.emit_assembly.specs.declared.references.References.{References}
use Rattle.emit_program_laws.specs.TrampolineLaws.Choosing.{IsMethod}
use Rattle.emit_program_laws.specs.SpanCodeLaws.Helpers.{HasHelpers, IsHelper, helper_parameters, helper_count}
use Rattle.translate_classes.specs.Making.{Plan}
use Rattle.translate_classes.specs.declared.content.MainClass.{MainClass}
use Rattle.translate_classes.specs.Content.{has_meter}
use Rattle.translate_classes.specs.Main.{helper_plan, helper_plans, choose_plan, missing_plan, other_plans, main_plans}
use Rattle.nv_translate.specs.Linked.{IsPlanned, ArePlanned}
use Rattle.nv_translate.proofs.TranslatedMethods.Lines.{lies}
use Rattle.nv_translate.proofs.TranslatedMethods.Planned.{planned-method, planned-lies, left-of, counted-first}

descriptors-are : map (λ number. parameters_of (helper_descriptor number)) (range_with_len 0 20) ≡ map helper_parameters (range_with_len 0 20)
unfolding parameters_from after_field
descriptors-are = refl

have-parameters : (number : ℕ) → number < 20 → parameters_of (helper_descriptor number) ≡ helper_parameters number
have-parameters number below =
    same_Some _ _
    (sym (counted-first (λ k. parameters_of (helper_descriptor k)) 20 number below)
    ∙ ap (λ l. slice_get l number) descriptors-are
    ∙ counted-first helper_parameters 20 number below)

module _ (program : Program) (main : MainClass) (texts : List ℕ) (by : References) (planned : ArePlanned program 0 (main_plans main texts by)) where
  planned-as : (number : ℕ) (p : Plan) → slice_get (main_plans main texts by) number ≡ Some p → IsPlanned program number p
  planned-as number p at = let e : 0 + number ≡ number = omega arith in subst (λ n. IsPlanned program n p) e (planned number p at)

  is-helper : (number : ℕ) → number < helper_count → IsHelper program main.beginning.order number
  is-helper number below =
      let p = planned-as number (helper_plan main.beginning.order by number)
      (left-of (helper_plans main.beginning.order by 20) (other_plans main texts by) number (helper_plan main.beginning.order by number)
      (counted-first (helper_plan main.beginning.order by) 20 number (omega arith))) in
      record {
        method = p.method;
        there = p.there;
        parameters_are = p.parameters_are ∙ have-parameters number (omega arith);
        lies = lies program number p.method (helper_code main.beginning.order number) p.there p.lines_are;
      }

  pub has-helpers : HasHelpers program main.beginning.order
  has-helpers number below = is-helper number below

  chooses : IsPlanned program choose_number (choose_plan main by)
  chooses = planned-as choose_number (choose_plan main by) refl

  misses : IsPlanned program missing_number (missing_plan (has_meter main) by)
  misses = planned-as missing_number (missing_plan (has_meter main) by) refl

  pub choose-lies : LiesAt program choose_number 0 (main_chooser main.starts.now missing_number)
  choose-lies = planned-lies program choose_number (choose_plan main by) chooses

  pub missing-is : IsMethod program missing_number
  missing-is = planned-method program missing_number (missing_plan (has_meter main) by) misses refl

  pub missing-lies : LiesAt program missing_number 0 (missing_method (has_meter main))
  missing-lies = planned-lies program missing_number (missing_plan (has_meter main) by) misses
