-- The main class has the methods that its plans name, and what every class names is there.
use Rattle.std.proofs.Common.{◌≡◌, ℕ, ◌+◌, ◌<◌, true, List, [], length, Some, None, refl, sym, ap, ◌∙◌, slice_get}
use Rattle.std.specs.Prelude.{option_map}
use Rattle.std.specs.List.{list_all, range_with_len}
use Rattle.std.proofs.lemmas.Option.{slice_get-map}
use Rattle.class_definition.specs.declared.class.Class.{Class}
use Rattle.class_definition.specs.MemberNames.{Signature, signature, string_name, host_name, length_signature, char_at_signature, host_call_signature, host_fault_signature, methods_of}
use Rattle.class_definition.specs.LinkFault.{run_signature, twice_fault}
use Rattle.emit_layout.specs.Fields.{field_name, field_descriptor}
use Rattle.emit_layout.specs.Helpers.{helper_name, helper_descriptor}
use Rattle.emit_assembly.specs.declared.references.References.{References}
use Rattle.emit_classes.specs.Mentioned.{OfClass, method_mention, field_mention}
use Rattle.translate_classes.specs.Making.{Plan}
use Rattle.translate_classes.specs.Mentioned.{called, helper_mentions}
use Rattle.translate_classes.specs.Tables.{references_of}
use Rattle.translate_classes.specs.declared.content.MainClass.{MainClass}
use Rattle.translate_classes.specs.Content.{has_meter, main_fields}
use Rattle.translate_classes.specs.MainMentioned.{own_mentions}
use Rattle.translate_classes.specs.Main.{IsMainClass, helper_plan, helper_plans, run_plan, choose_plan, pages_plan, missing_plan, other_plans, main_plans}
use Rattle.translate_classes_laws.specs.Planned.{planned, numbered}
use Rattle.translate_classes_laws.proofs.LinkedNumbers.Made.{methods-made, fields-made}
use Rattle.translate_classes_laws.proofs.LinkedNumbers.Programs.{get-front, get-behind}
use Rattle.nv_translate.proofs.LinkedTranslations.Lists.{mapped-get, mapped-length}
use Rattle.nv_translate.proofs.AcceptedTranslations.Passing.{pass-range}
use Rattle.nv_translate.proofs.AcceptedTranslations.Meant.{is_meant}
use Rattle.nv_translate.proofs.AcceptedTranslations.Having.{object-meant, host-meant, string-meant, ints-meant, call-meant, fault-meant, length-meant, char_at-meant, class-meant, field-meant, planned-meant}
use Rattle.nv_translate.proofs.AcceptedTranslations.Mentions.{NamesPass, three, own-pass}

module _ (name : List ℕ) (main : MainClass) (bytes : List ℕ) (is : IsMainClass name main bytes) where
  abbrev by : References
  by = references_of is.names 0 is.slots

  abbrev plans : List Plan
  plans = main_plans main is.texts by

  abbrev helpers : List Plan
  helpers = helper_plans main.beginning.order by 20

  helper-at : (k : ℕ) → k < 20 → slice_get plans k ≡ Some (helper_plan main.beginning.order by k)
  helper-at k below =
      get-front helpers (other_plans main is.texts by) k (helper_plan main.beginning.order by k)
      (mapped-get (helper_plan main.beginning.order by) 20 k below)

  other-at : (k : ℕ) (p : Plan) → slice_get (other_plans main is.texts by) k ≡ Some p → slice_get plans (20 + k) ≡ Some p
  other-at k p at =
      let long : 20 ≡ length helpers = sym (mapped-length (helper_plan main.beginning.order by) 20) in
      ap (λ n. slice_get plans (n + k)) long ∙ get-behind helpers (other_plans main is.texts by) k ∙ at

  pub run-there : slice_get (methods_of is.class) 20 ≡ Some run_signature
  run-there =
      ap (λ (ms : List Signature). slice_get ms 20) (methods-made is.class is.class.methods plans is.methods)
      ∙ slice_get-map planned plans 20 ∙ ap (option_map planned) (other-at 0 (run_plan main is.texts by) refl)

  module _ (classes : List Class) (once : twice_fault [] 0 classes ≡ None) (there : slice_get classes 0 ≡ Some is.class) where
    other-meant : (k : ℕ) (p : Plan) → slice_get (other_plans main is.texts by) k ≡ Some p → is_meant classes (method_mention name p.name p.descriptor) ≡ true
    other-meant k p at = planned-meant classes once 0 is.class there name is.named plans is.methods (20 + k) p (other-at k p at)

    each-field : (k : ℕ) → k < main_fields main → is_meant classes (field_mention name (field_name k) (field_descriptor k)) ≡ true
    each-field k below =
        field-meant classes once 0 is.class there name is.named k (signature (field_name k) (field_descriptor k))
        (ap (λ (fs : List Signature). slice_get fs k) (fields-made is.class field_name field_descriptor is.class.fields (range_with_len 0 (main_fields main)) is.fields_are)
        ∙ mapped-get (numbered field_name field_descriptor) (main_fields main) k below)

    helpers-pass : list_all (is_meant classes) (helper_mentions name 20) ≡ true
    helpers-pass =
        pass-range (is_meant classes) (λ k. method_mention name (helper_name k) (helper_descriptor k)) 0 20 (λ k below.
        planned-meant classes once 0 is.class there name is.named plans is.methods k (helper_plan main.beginning.order by k) (helper-at k below))

    pub names-meant : NamesPass (is_meant classes) name (main_fields main)
    names-meant = record {
      class = class-meant classes once 0 is.class there name is.named;
      object = object-meant classes once;
      each_field = each-field;
      host =
          three (is_meant classes) name (OfClass host_name) (called host_name host_call_signature) (called host_name host_fault_signature)
          (host-meant classes once) (call-meant classes once) (fault-meant classes once);
      string =
          three (is_meant classes) name (OfClass string_name) (called string_name length_signature) (called string_name char_at_signature)
          (string-meant classes once) (length-meant classes once) (char_at-meant classes once);
      ints = ints-meant classes once;
      helpers = helpers-pass;
    }

    pub own-meant : list_all (is_meant classes) (own_mentions name) ≡ true
    own-meant =
        own-pass (is_meant classes) name (main_fields main) names-meant (other-meant 1 (choose_plan main by) refl) (other-meant 2 (pages_plan by) refl)
        (other-meant 3 (missing_plan (has_meter main) by) refl)
