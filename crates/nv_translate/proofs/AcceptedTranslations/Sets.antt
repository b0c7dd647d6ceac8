-- The classes of a translation are those that are loaded by the name of its main class.
use Rattle.std.proofs.Common.{◌≡◌, ℕ, suc, ◌+◌, ◌≤◌, List, [], ◌∷◌, ◌++◌, map, length, Option, Some, None, refl, sym, ap, subst, ◌∙◌, slice_get}
use Rattle.std.specs.List.{AllZip, range_with_len}
use Rattle.nv_outside.specs.Files.{Files}
use Rattle.nv_values.specs.Names.{Text, IsClassName}
use Rattle.elf_definition.specs.Start.{Source}
use Rattle.class_definition.specs.declared.class.Class.{Class}
use Rattle.class_definition_laws.proofs.ClassLaws.{spelled_read}
use Rattle.class_definition.specs.LinkFault.{twice_fault}
use Rattle.class_sets.specs.declared.loaded.Loaded.TheVariants.{Classes}
use Rattle.class_sets.specs.ClassSets.{class_or_fault, names_asked, class_set}
use Rattle.class_sets.specs.Waiting.{fresh}
use Rattle.emit_layout.specs.ClassNames.{file_name, code_class_name, data_class_name}
use Rattle.emit_layout.specs.Numbers.{main_methods}
use Rattle.translate_classes.proofs.ClassMaking.ZipLemmas.{zip-joined}
use Rattle.translate_program.specs.declared.named_file.NamedFile.{NamedFile}
use Rattle.translate_program.specs.Files.{named_file_name}
use Rattle.translate_program.specs.Classes.{Placed, Follow, IsCodeFile, run_of}
use Rattle.translate_program.specs.declared.built.Built.{Built}
use Rattle.translate_program.specs.Translation.{IsTranslationBy}
use Rattle.nv_translate.specs.AcceptedCode.{HasAcceptedCode}
use Rattle.nv_translate.specs.Translated.{AreStored}
use Rattle.nv_translate.proofs.AcceptedTranslations.Growing.{GivesClass, set-grown}
use Rattle.nv_translate.proofs.AcceptedTranslations.Classes.{IsSpelled, count, IsData, all-spelled, main-there}
use Rattle.nv_translate.proofs.AcceptedTranslations.Asked.{other_names, nothing-new, others-once, main-asks, others-few}

abbrev IsNamed : NamedFile → List ℕ → Type 0
IsNamed f class = named_file_name f ≡ file_name class

code-named : (name : Text) (number first : ℕ) (code : List Placed) (files : List NamedFile) → AllZip (IsCodeFile name) code files → Follow number first code
    → AllZip IsNamed files (map (code_class_name name) (range_with_len number (length code)))
code-named name number first [] [] all follow = tt
code-named name number first [] (f ∷ files) all follow = absurd all
code-named name number first (c ∷ code) [] all follow = absurd all
code-named name number first (c ∷ code) (f ∷ files) all follow =
    (subst (λ n. named_file_name f ≡ file_name (code_class_name name n)) follow.0 all.0.named, code-named name (number + 1) (run_of c + 1) code files all.1 follow.2)

data-named : (name : Text) (IsFile : ℕ → NamedFile → Type 0) → ((k : ℕ) (f : NamedFile) → IsFile k f → named_file_name f ≡ file_name (data_class_name name k))
    → (numbers : List ℕ) (files : List NamedFile) → AllZip IsFile numbers files → AllZip IsNamed files (map (data_class_name name) numbers)
data-named name IsFile each [] [] all = tt
data-named name IsFile each [] (f ∷ files) all = absurd all
data-named name IsFile each (k ∷ numbers) [] all = absurd all
data-named name IsFile each (k ∷ numbers) (f ∷ files) all = (each k f all.0, data-named name IsFile each numbers files all.1)

-- ---- stored files give their classes

gives-class : (files : Files) (f : NamedFile) (name : List ℕ) (c : Class) → files (named_file_name f) ≡ Some f.bytes.items → IsNamed f name → IsSpelled f c
    → GivesClass files name c
gives-class files f name c stored named spells = record {
  bytes = f.bytes.items;
  file_is = ap files (sym named) ∙ stored;
  class_is = ap (class_or_fault (length f.bytes.items)) (spelled_read f.bytes.items c spells);
}

gives-classes : (files : Files) (fs : List NamedFile) (names : List (List ℕ)) (classes : List Class) → AreStored files fs → AllZip IsNamed fs names
    → AllZip IsSpelled fs classes → AllZip (GivesClass files) names classes
gives-classes files [] [] [] stored named spelled = tt
gives-classes files [] [] (c ∷ classes) stored named spelled = absurd spelled
gives-classes files [] (n ∷ names) classes stored named spelled = absurd named
gives-classes files (f ∷ fs) [] classes stored named spelled = absurd named
gives-classes files (f ∷ fs) (n ∷ names) [] stored named spelled = absurd spelled
gives-classes files (f ∷ fs) (n ∷ names) (c ∷ classes) stored named spelled =
    (gives-class files f n c (stored 0 f refl) named.0 spelled.0, gives-classes files fs names classes (λ k g at. stored (suc k) g at) named.1 spelled.1)

-- ---- the set

-- a first class and others, whose names the first one asks for
set-from : (files : Files) (name : List ℕ) (rest : List (List ℕ)) (main : Class) (classes : List Class) (fs : List NamedFile) → GivesClass files name main
    → slice_get classes 0 ≡ Some main → ((ds : List Class) → AllZip IsSpelled fs ds → AllZip (GivesClass files) rest ds)
    → (f : NamedFile) → AllZip IsSpelled (f ∷ fs) classes → length rest ≤ 1024 → fresh (name ∷ []) rest ≡ rest → fresh (name ∷ []) (names_asked main) ≡ rest
    → ((n : ℕ) (d : Class) → slice_get classes n ≡ Some d → fresh (name ∷ rest) (names_asked d) ≡ []) → class_set files name ≡ Classes classes
set-from files name rest main [] fs gives there others f spelled few once asks nothing = absurd cc
set-from files name rest main (c ∷ ds) fs gives there others f spelled few once asks nothing =
    let one : main ≡ c = cc in
    set-grown files name rest main ds gives (others ds spelled.1) few once asks (λ k d at. nothing (suc k) d at) ∙ ap (λ (x : Class). Classes (x ∷ ds)) one

module _ {meter : Option ℕ} (source : Source) (name : Text) (method_bytes : ℕ) (built : Built) (t : IsTranslationBy meter source name method_bytes built)
    (classes : List Class) (spelled : AllZip IsSpelled built.files.items classes) where
  pub set-is : twice_fault [] 0 classes ≡ None → HasAcceptedCode source → IsClassName name → (files : Files) → AreStored files built.files.items
      → class_set files name ≡ Classes classes
  set-is once has class_name_is files stored =
      let all = subst (AreStored files) t.files_are stored in
      let fs : List NamedFile = t.code_files ++ t.data_files in
      let n = count source name method_bytes built t classes spelled in
      let named : AllZip IsNamed fs (other_names source name method_bytes built t classes spelled) =
      zip-joined IsNamed t.code_files (map (code_class_name name) (range_with_len 0 (length t.code))) t.data_files (map (data_class_name name) (range_with_len 0 n))
      (code-named name 0 main_methods t.code t.code_files t.code_are t.code_is.placed.follow)
      (data-named name (IsData source name method_bytes built t classes spelled) (λ k f is. is.named) (range_with_len 0 n) t.data_files t.data_are) in
      set-from files name (other_names source name method_bytes built t classes spelled) t.main_is.class_is.class classes fs
      (gives-class files t.main_file name t.main_is.class_is.class (all 0 t.main_file refl) t.main_is.named t.main_is.class_is.spells)
      (main-there source name method_bytes built t classes spelled)
      (λ ds behind. gives-classes files fs (other_names source name method_bytes built t classes spelled) ds (λ k f at. all (suc k) f at) named behind)
      t.main_file (all-spelled source name method_bytes built t classes spelled)
      (others-few source name method_bytes built t classes spelled once has class_name_is)
      (others-once source name method_bytes built t classes spelled once has class_name_is)
      (main-asks source name method_bytes built t classes spelled once has class_name_is)
      (nothing-new source name method_bytes built t classes spelled)
