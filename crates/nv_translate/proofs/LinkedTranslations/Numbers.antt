-- The numbers of the methods of the classes of a translation.
use Rattle.std.proofs.Common.{◌≡◌, ℕ, zero, suc, ◌+◌, ◌*◌, ◌≤◌, List, [], ◌∷◌, ◌++◌, map, length, Some, refl, sym, ap, ◌∙◌, slice_get, length-append, arith}
use Rattle.std.specs.List.{AllZip}
use Rattle.std.proofs.lemmas.List.{length-map}
use Rattle.std.proofs.lemmas.Slice.Zip.{AllZip-long}
use Rattle.nv_values.specs.Names.{Text}
use Rattle.elf_image_parts.specs.Pages.{Page}
use Rattle.class_definition.specs.declared.class.Class.{Class}
use Rattle.class_definition.specs.Linking.{linked_method, methods_from, linked_methods}
use Rattle.emit_assembly.specs.declared.references.References.{References}
use Rattle.translate_classes.specs.Tables.{references_of}
use Rattle.translate_classes.specs.Making.{Plan, IsMade}
use Rattle.translate_classes.specs.Code.{span_plan, span_plans, run_plan}
use Rattle.translate_classes.specs.Data.{words_plan, fill_plan}
use Rattle.translate_classes_laws.specs.Before.{methods_before}
use Rattle.translate_program.specs.declared.named_file.NamedFile.{NamedFile}
use Rattle.translate_program.specs.Classes.{Placed, Follow, IsCodeFile, methods_behind, run_of}
use Rattle.translate_program.specs.DataFiles.{IsDataFile, class_number, first_method}
use Rattle.nv_translate.proofs.LinkedTranslations.Lists.{mapped-length}
use Rattle.nv_translate.proofs.LinkedTranslations.Classes.{classes_of}

pub made-long : (c : Class) (plans : List Plan) → AllZip (IsMade c.pool) c.methods plans → length c.methods ≡ length plans
made-long c plans made = sym (AllZip-long (IsMade c.pool) c.methods plans made)

-- ---- classes of code

abbrev pub code_class : (name : Text) (c : Placed) (file : NamedFile) → IsCodeFile name c file → Class
code_class name c file is = is.class.class

module _ (name : Text) (others : List Class) where
  abbrev with_code : (code : List Placed) (files : List NamedFile) → AllZip (IsCodeFile name) code files → List Class
  with_code code files all = classes_of (IsCodeFile name) (code_class name) code files all ++ others

  -- a method for each span, and one more
  code-long : (c : Placed) (file : NamedFile) (is : IsCodeFile name c file) → length (code_class name c file is).methods ≡ length c.spans + 1
  code-long c file is =
      let k = is.class in
      let spans : References = references_of k.names 0 k.helpers in
      let run : Plan = run_plan c.part c.spans c.first_method (references_of k.names c.first_method k.own_methods) in
      let front = span_plans c.part c.spans spans (length c.spans) in
      omega (arith, made-long k.class (front ++ run ∷ []) k.methods, length-append front (run ∷ []), mapped-length (span_plan c.part c.spans spans) (length c.spans))

  pub code-before : (number first : ℕ) (code : List Placed) (files : List NamedFile) (all : AllZip (IsCodeFile name) code files) → Follow number first code
      → (i : ℕ) (c : Placed) → slice_get code i ≡ Some c → first + methods_before (with_code code files all) i ≡ c.first_method
  code-before number first [] files all follow i c e = absurd cc
  code-before number first (d ∷ code) [] all follow i c e = absurd all
  code-before number first (d ∷ code) (f ∷ files) all follow zero c e =
      let one : d ≡ c = cc in
      let none : first + 0 ≡ first = omega arith in
      none ∙ sym follow.1 ∙ ap (λ (x : Placed). x.first_method) one
  code-before number first (d ∷ code) (f ∷ files) all follow (suc i) c e =
      let before = methods_before (with_code code files all.1) i in
      let next : first + (length (code_class name d f all.0).methods + before) ≡ run_of d + 1 + before =
      omega (arith, code-long d f all.0, follow.1) in
      next ∙ code-before (number + 1) (run_of d + 1) code files all.1 follow.2 i c e

  pub code-behind : (number first : ℕ) (code : List Placed) (files : List NamedFile) (all : AllZip (IsCodeFile name) code files) → Follow number first code
      → (k : ℕ) → first + methods_before (with_code code files all) (length code + k) ≡ methods_behind first code + methods_before others k
  code-behind number first [] files all follow k =
      let none : 0 + k ≡ k = omega arith in ap (λ n. first + methods_before others n) none
  code-behind number first (d ∷ code) [] all follow k = absurd all
  code-behind number first (d ∷ code) (f ∷ files) all follow k =
      let next : suc (length code) + k ≡ suc (length code + k) = omega arith in
      let before = methods_before (with_code code files all.1) (length code + k) in
      let more : first + (length (code_class name d f all.0).methods + before) ≡ run_of d + 1 + before =
      omega (arith, code-long d f all.0, follow.1) in
      ap (λ n. first + methods_before (with_code (d ∷ code) (f ∷ files) all) n) next
      ∙ more ∙ code-behind (number + 1) (run_of d + 1) code files all.1 follow.2 k

-- ---- classes of data

module _ (name : Text) (code_classes methods : ℕ) (pages : List Page) where
  abbrev pub data_class : (k : ℕ) (file : NamedFile) → IsDataFile name code_classes methods pages k file → Class
  data_class k file is = is.class_is.class

  abbrev pub data_classes_of : (numbers : List ℕ) (files : List NamedFile) → AllZip (IsDataFile name code_classes methods pages) numbers files → List Class
  data_classes_of numbers files all = classes_of (IsDataFile name code_classes methods pages) data_class numbers files all

  pub data-before : (numbers : List ℕ) (files : List NamedFile) (all : AllZip (IsDataFile name code_classes methods pages) numbers files) (k : ℕ)
      → k ≤ length numbers → methods_before (data_classes_of numbers files all) k ≡ 2 * k
  data-before [] files all k within = omega (arith, within)
  data-before (n ∷ numbers) [] all k within = absurd all
  data-before (n ∷ numbers) (f ∷ files) all zero within = refl
  data-before (n ∷ numbers) (f ∷ files) all (suc k) within =
      let c = all.0.class_is in
      let by : References = references_of c.names (first_method methods n) (c.words ∷ []) in
      let plans : List Plan = words_plan by ∷ fill_plan c.texts (class_number code_classes n) (first_method methods n) by ∷ [] in
      let long : length c.class.methods ≡ 2 = made-long c.class plans c.methods in
      omega (arith, long, data-before numbers files all.1 k (omega (arith, within)))

-- ---- all methods

methods-from-long : (classes : List Class) (number : ℕ) (cs : List Class) → length (methods_from classes number cs) ≡ methods_before cs (length cs)
methods-from-long classes number [] = refl
methods-from-long classes number (c ∷ cs) =
    let own = map (linked_method classes number c) c.methods in
    omega (arith, length-append own (methods_from classes (suc number) cs), length-map c.methods (linked_method classes number c), methods-from-long classes (suc number) cs)

pub methods-long : (classes : List Class) → length (linked_methods classes) ≡ methods_before classes (length classes)
methods-long classes = methods-from-long classes 0 classes
