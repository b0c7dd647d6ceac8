-- The classes of code and of data have the methods that their plans name.
use Rattle.std.proofs.Common.{◌≡◌, ℕ, ◌+◌, ◌<◌, ◌≤◌, true, List, [], ◌∷◌, ◌++◌, length, Some, None, refl, slice_get, arith}
use Rattle.std.specs.Prelude.{codes}
use Rattle.std.specs.List.{list_all}
use Rattle.nv_values.specs.Names.{Text}
use Rattle.elf_image_parts.specs.Pages.{Page}
use Rattle.class_definition.specs.declared.class.Class.{Class}
use Rattle.class_definition.specs.LinkFault.{twice_fault}
use Rattle.emit_layout.specs.ClassNames.{code_class_name, data_class_name, span_name}
use Rattle.emit_assembly.specs.declared.references.References.{References}
use Rattle.emit_classes.specs.Mentioned.{OfClass, method_mention}
use Rattle.emit_methods_laws.specs.Naming.{fields_of}
use Rattle.translate_classes.specs.Making.{Plan, nothing}
use Rattle.translate_classes.specs.Tables.{references_of}
use Rattle.translate_classes.specs.Code.{IsCodeClass, span_plan, span_plans, run_plan}
use Rattle.translate_classes.specs.CodeNaming.{code_mentions}
use Rattle.translate_classes.specs.Data.{IsDataClass, words_plan, fill_plan}
use Rattle.translate_classes.specs.DataNaming.{data_mentions}
use Rattle.translate_classes_laws.proofs.LinkedNumbers.Programs.{get-front, get-behind}
use Rattle.translate_program.specs.Classes.{Placed}
use Rattle.nv_translate.proofs.LinkedTranslations.Lists.{mapped-get}
use Rattle.nv_translate.proofs.AcceptedTranslations.Passing.{pass-range}
use Rattle.nv_translate.proofs.AcceptedTranslations.Meant.{is_meant}
use Rattle.nv_translate.proofs.AcceptedTranslations.Having.{class-meant, planned-meant}
use Rattle.nv_translate.proofs.AcceptedTranslations.Mentions.{NamesPass, code-pass, data-pass}

-- ---- a class of code

module _ (name : Text) (c : Placed) (bytes : List ℕ) (is : IsCodeClass name c.number c.part c.spans c.first_method bytes)
    (classes : List Class) (once : twice_fault [] 0 classes ≡ None) (n : ℕ) (there : slice_get classes n ≡ Some is.class) where
  abbrev spans_by : References
  spans_by = references_of is.names 0 is.helpers

  abbrev run : Plan
  run = run_plan c.part c.spans c.first_method (references_of is.names c.first_method is.own_methods)

  abbrev spans : List Plan
  spans = span_plans c.part c.spans spans_by (length c.spans)

  abbrev own : List ℕ
  own = code_class_name name c.number

  pub code-class : is_meant classes (OfClass own) ≡ true
  code-class = class-meant classes once n is.class there own is.named

  span-meant : (k : ℕ) → k < 0 + length c.spans → is_meant classes (method_mention own (span_name k) nothing) ≡ true
  span-meant k below =
      planned-meant classes once n is.class there own is.named (spans ++ run ∷ []) is.methods k (span_plan c.part c.spans spans_by k)
      (get-front spans (run ∷ []) k (span_plan c.part c.spans spans_by k)
      (mapped-get (span_plan c.part c.spans spans_by) (length c.spans) k (omega (arith, below))))

  pub code-run : is_meant classes (method_mention own (codes "run") nothing) ≡ true
  code-run =
      planned-meant classes once n is.class there own is.named (spans ++ run ∷ []) is.methods (length spans + 0) run (get-behind spans (run ∷ []) 0)

  pub code-meant : (fields : ℕ) → NamesPass (is_meant classes) name fields → fields_of c.part.metered ≤ fields
      → list_all (is_meant classes) (code_mentions (fields_of c.part.metered) own name (length c.spans)) ≡ true
  code-meant fields all few =
      code-pass (is_meant classes) name fields (fields_of c.part.metered) all few own (length c.spans) code-class
      (pass-range (is_meant classes) (λ k. method_mention own (span_name k) nothing) 0 (length c.spans) span-meant)

-- ---- a class of data

module _ (name : Text) (k number first : ℕ) (pages : List Page) (bytes : List ℕ) (is : IsDataClass name k number first pages bytes)
    (classes : List Class) (once : twice_fault [] 0 classes ≡ None) (n : ℕ) (there : slice_get classes n ≡ Some is.class) where
  abbrev data_by : References
  data_by = references_of is.names first (is.words ∷ [])

  abbrev data_plans : List Plan
  data_plans = words_plan data_by ∷ fill_plan is.texts number first data_by ∷ []

  abbrev data_own : List ℕ
  data_own = data_class_name name k

  pub data-class : is_meant classes (OfClass data_own) ≡ true
  data-class = class-meant classes once n is.class there data_own is.named

  pub data-fill : is_meant classes (method_mention data_own (codes "fill") nothing) ≡ true
  data-fill = planned-meant classes once n is.class there data_own is.named data_plans is.methods 1 (fill_plan is.texts number first data_by) refl

  pub data-meant : (fields : ℕ) → NamesPass (is_meant classes) name fields → 38 ≤ fields → list_all (is_meant classes) (data_mentions data_own name) ≡ true
  data-meant fields all few =
      data-pass (is_meant classes) name fields all few data_own data-class
      (planned-meant classes once n is.class there data_own is.named data_plans is.methods 0 (words_plan data_by) refl)
