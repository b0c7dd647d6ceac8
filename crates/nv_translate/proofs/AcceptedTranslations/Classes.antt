-- The classes that the files of a translation spell are the main class, the classes of code and those of data.
use Rattle.std.proofs.Common.{◌≡◌, ℕ, zero, suc, ◌+◌, ◌<◌, List, ◌∷◌, ◌++◌, length, Option, Some, refl, sym, ap, subst, ◌∙◌, slice_get, inl, inr}
use Rattle.std.specs.List.{AllZip, range_with_len}
use Rattle.std.proofs.lemmas.List.FromFn.{length-range_with_len}
use Rattle.std.proofs.lemmas.Slice.Zip.{AllZip-long}
use Rattle.nv_values.specs.Names.{Text}
use Rattle.elf_definition.specs.Start.{Source}
use Rattle.class_definition.specs.declared.class.Class.{Class}
use Rattle.class_definition.specs.ClassFile.{Spells}
use Rattle.class_definition_laws.proofs.ClassLaws.{same_class}
use Rattle.translate_classes_laws.proofs.LinkedNumbers.Programs.{get-front, get-behind}
use Rattle.translate_program.specs.declared.named_file.NamedFile.{NamedFile}
use Rattle.translate_program.specs.Classes.{Placed, IsCodeFile}
use Rattle.translate_program.specs.DataFiles.{IsDataFile, class_count, filled_pages}
use Rattle.translate_program.specs.declared.built.Built.{Built}
use Rattle.translate_program.specs.Translation.{IsTranslationBy, code_methods}
use Rattle.nv_translate.proofs.LinkedTranslations.Lists.{zip-first, zip-second, range-first, range-below, get-either}

abbrev pub IsSpelled : NamedFile → Class → Type 0
IsSpelled f c = Spells f.bytes.items c

-- the class of a file
class-of : (files : List NamedFile) (classes : List Class) → AllZip IsSpelled files classes → (n : ℕ) (f : NamedFile) (c : Class)
    → slice_get files n ≡ Some f → IsSpelled f c → slice_get classes n ≡ Some c
class-of files classes spelled n f c at is =
    let found = zip-first IsSpelled files classes n f spelled at in
    found.1 ∙ ap (λ d. Some d) (same_class f.bytes.items c found.0 is found.2)

module _ {meter : Option ℕ} (source : Source) (name : Text) (method_bytes : ℕ) (built : Built) (t : IsTranslationBy meter source name method_bytes built)
    (classes : List Class) (spelled : AllZip IsSpelled built.files.items classes) where
  abbrev pub main_class : Class
  main_class = t.main_is.class_is.class

  abbrev pub count : ℕ
  count = class_count (filled_pages source)

  abbrev pub IsData : ℕ → NamedFile → Type 0
  IsData = IsDataFile name (length t.code) (code_methods t.code) (filled_pages source)

  abbrev pub others : List NamedFile
  others = t.code_files ++ t.data_files

  pub all-spelled : AllZip IsSpelled (t.main_file ∷ others) classes
  all-spelled = subst (λ files. AllZip IsSpelled files classes) t.files_are spelled

  pub code-long : length t.code_files ≡ length t.code
  code-long = AllZip-long (IsCodeFile name) t.code t.code_files t.code_are

  pub data-long : length t.data_files ≡ count
  data-long = AllZip-long IsData (range_with_len 0 count) t.data_files t.data_are ∙ length-range_with_len 0 count

  -- ---- where each stands

  pub main-there : slice_get classes 0 ≡ Some main_class
  main-there = class-of (t.main_file ∷ others) classes all-spelled 0 t.main_file main_class refl t.main_is.class_is.spells

  pub record CodeStands (c : Placed) (n : ℕ) : Type 0 where
    pub file : NamedFile
    pub is : IsCodeFile name c file
    pub there : slice_get classes n ≡ Some is.class.class

  pub code-there : (i : ℕ) (c : Placed) → slice_get t.code i ≡ Some c → CodeStands c (suc i)
  code-there i c at =
      let found = zip-first (IsCodeFile name) t.code t.code_files i c t.code_are at in
      record {
        file = found.0;
        is = found.2;
        there =
            class-of (t.main_file ∷ others) classes all-spelled (suc i) found.0 found.2.class.class
            (get-front t.code_files t.data_files i found.0 found.1) found.2.class.spells;
      }

  pub record DataStands (k n : ℕ) : Type 0 where
    pub file : NamedFile
    pub is : IsData k file
    pub there : slice_get classes n ≡ Some is.class_is.class

  pub data-there : (k : ℕ) → k < count → DataStands k (suc (length t.code_files + k))
  data-there k below =
      let found = zip-first IsData (range_with_len 0 count) t.data_files k k t.data_are (range-first count k below) in
      record {
        file = found.0;
        is = found.2;
        there =
            class-of (t.main_file ∷ others) classes all-spelled (suc (length t.code_files + k)) found.0 found.2.class_is.class
            (get-behind t.code_files t.data_files k ∙ found.1) found.2.class_is.spells;
      }

  -- ---- there are no others

  pub each-class : (P : Class → Type 0) → P main_class
      → ((i : ℕ) (c : Placed) (file : NamedFile) (is : IsCodeFile name c file) → slice_get t.code i ≡ Some c → slice_get classes (suc i) ≡ Some is.class.class → P is.class.class)
      → ((k : ℕ) (file : NamedFile) (is : IsData k file) → k < count → slice_get classes (suc (length t.code_files + k)) ≡ Some is.class_is.class → P is.class_is.class)
      → (n : ℕ) (d : Class) → slice_get classes n ≡ Some d → P d
  each-class P main code data_are zero d at =
      let one : main_class ≡ d = cc (sym main-there ∙ at) in
      subst P one main
  each-class P main code data_are (suc n) d at =
      let found = zip-second IsSpelled (t.main_file ∷ others) classes (suc n) d all-spelled at in
      elim (get-either t.code_files t.data_files n found.0 found.1) [
        | inl front ↦
            let of = zip-second (IsCodeFile name) t.code t.code_files n found.0 t.code_are front in
            let same = same_class found.0.bytes.items d of.2.class.class found.2 of.2.class.spells in
            subst P same (code n of.0 found.0 of.2 of.1 (at ∙ ap (λ c. Some c) (sym same)))
        | inr behind ↦
            let of = zip-second IsData (range_with_len 0 count) t.data_files behind.0 found.0 t.data_are behind.2 in
            data-class n d at found.0 found.2 behind.0 behind.1 of.0 of.2 of.1
      ]
    where
      data-class : (n : ℕ) (d : Class) → slice_get classes (suc n) ≡ Some d → (f : NamedFile) → IsSpelled f d → (j : ℕ) → n ≡ length t.code_files + j
          → (k : ℕ) (is : IsData k f) → slice_get (range_with_len 0 count) j ≡ Some k → P d
      data-class n d at f spells j place k is there =
          let below = range-below count j k there in
          let number : k ≡ j = cc (sym there ∙ range-first count j below) in
          let same = same_class f.bytes.items d is.class_is.class spells is.class_is.spells in
          let here : slice_get classes (suc (length t.code_files + k)) ≡ Some d =
          ap (λ x. slice_get classes (suc (length t.code_files + x))) number ∙ ap (λ x. slice_get classes (suc x)) (sym place) ∙ at in
          subst P same (data_are k f is (subst (λ x. x < count) (sym number) below) (here ∙ ap (λ c. Some c) (sym same)))
