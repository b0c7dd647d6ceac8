-- How the program of a linked translation begins.
use Rattle.std.proofs.Common.{◌≡◌, ◌≢◌, ℕ, ◌+◌, ◌<◌, ◌==◌, ◌||◌, Bool, false, if◌then◌else◌, List, [], ◌∷◌, slice_get, codes, Option, Some, refl, ap, subst, ◌∙◌, arith, ne_eqb}
use Rattle.jvm_definition.specs.declared.kind.Kind.TheVariants as kinds
use Rattle.jvm_definition.specs.Program.{Program}
use Rattle.class_definition.specs.Linking.{descriptor_kind}
use Rattle.emit_steps.specs.Placing.{LiesAt}
use Rattle.emit_layout.specs.Fields.{field_descriptor}
use Rattle.emit_layout.specs.Numbers.{run_number, choose_number, pages_number}
use Rattle.emit_instructions.specs.Fields.{linked_field}
use Rattle.emit_loading.specs.declared.beginning.Beginning.{Beginning}
use Rattle.emit_loading.specs.Starting.{run_code}
use Rattle.emit_loading.specs.Pages.{pages_code}
use Rattle.emit_assembly.specs.declared.references.References.{References}
use Rattle.emit_program_laws.specs.LoadingCodeLaws.Leading.{IsMethod}
use Rattle.emit_program_laws.specs.LoadingCodeLaws.Loaded.{Filler, numbers_of}
use Rattle.emit_program_laws.specs.LoadingCodeLaws.Made.{IsProgram}
use Rattle.translate_classes.specs.Making.{Plan}
use Rattle.translate_classes.specs.declared.content.MainClass.{MainClass}
use Rattle.translate_classes.specs.Main.{helper_plan, helper_plans, run_plan, choose_plan, pages_plan, other_plans, main_plans}
use Rattle.nv_translate.specs.Linked.{IsPlanned, ArePlanned}
use Rattle.nv_translate.proofs.TranslatedLoading.Planned.{no-parameters, a-text, planned-method, planned-lies, planned-behind, counted-length}

-- ---- fields

other-field : (f a b : ℕ) → f < a → f < b → ((f == a) || (f == b)) ≡ false
other-field f a b below before = ap (λ t. t || (f == b)) (ne_eqb f a (λ e. omega (arith, e, below))) ∙ ne_eqb f b (λ e. omega (arith, e, before))

int-field : (f : ℕ) → f < 34 → descriptor_kind (field_descriptor f) ≡ kinds.Int
int-field f low =
    ap (λ (tables : Bool). descriptor_kind (if tables then codes "[[I" else codes "I")) (other-field f 34 35 low (omega arith))

-- ---- methods

module _ (program : Program) (main : MainClass) (texts : List ℕ) (by : References) (are : ArePlanned program 0 (main_plans main texts by)) where
  other-planned : (k : ℕ) (p : Plan) → slice_get (other_plans main texts by) k ≡ Some p → IsPlanned program (20 + k) p
  other-planned k p at =
      planned-behind program (helper_plans main.beginning.order by 20) (other_plans main texts by) 20 k p
      (counted-length (helper_plan main.beginning.order by) 0 20) are at

  pub pages-method : IsMethod program pages_number (kinds.Text ∷ [])
  pages-method = planned-method program pages_number (pages_plan by) (kinds.Text ∷ []) (other-planned 2 (pages_plan by) refl) a-text

  pub pages-lie : LiesAt program pages_number 0 pages_code
  pages-lie = planned-lies program pages_number (pages_plan by) (other-planned 2 (pages_plan by) refl)

  pub choose-method : IsMethod program choose_number []
  choose-method = planned-method program choose_number (choose_plan main by) [] (other-planned 1 (choose_plan main by) refl) no-parameters

  run-lies : LiesAt program run_number 0 (run_code main.meter main.beginning texts 0 pages_number main.data.now choose_number)
  run-lies = planned-lies program run_number (run_plan main texts by) (other-planned 0 (run_plan main texts by) refl)

  pub main-begins : (m : ℕ) (meter : Option ℕ) (b : Beginning) (fillers : List Filler) → main.meter ≡ meter → main.beginning ≡ b → main.data.now ≡ numbers_of fillers
      → program.first ≡ run_number → run_number ≢ m → ((f : ℕ) → f < 38 → program.field f ≡ Some (descriptor_kind (field_descriptor f)))
      → IsProgram program run_number m choose_number pages_number meter b texts fillers
  main-begins m meter b fillers counts begins fills first apart fields = record {
    first = first;
    apart = apart;
    run_lies = subst (λ numbers. LiesAt program run_number 0 (run_code meter b texts 0 pages_number numbers choose_number)) fills
        (subst (λ beginning. LiesAt program run_number 0 (run_code meter beginning texts 0 pages_number main.data.now choose_number)) begins
        (subst (λ turns. LiesAt program run_number 0 (run_code turns main.beginning texts 0 pages_number main.data.now choose_number)) counts run-lies));
    choose_is = choose-method;
    ints = λ f low. fields f (omega (arith, low)) ∙ ap Some (int-field f low);
    linked = fields linked_field (omega arith);
  }
