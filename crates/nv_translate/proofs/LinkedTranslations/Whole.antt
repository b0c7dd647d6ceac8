-- The classes of a translation, their names, and that nothing stands twice in them.
use Rattle.std.proofs.Common.{◌≡◌, ℕ, zero, suc, ◌+◌, ◌<◌, ◌≤◌, false, ◌||◌, List, [], ◌∷◌, ◌++◌, map, length, Option, Some, None, refl, sym, ap, subst, ◌∙◌, slice_get, inl, inr, length-append, arith}
use Rattle.std.specs.List.{All, AllZip, IsDistinct, range_with_len}
use Rattle.std.proofs.lemmas.Bool.{or_from, true≢false}
use Rattle.std.proofs.lemmas.List.{map-append}
use Rattle.std.proofs.lemmas.List.FromFn.{length-range_with_len}
use Rattle.std.proofs.lemmas.Option.{slice_get_past}
use Rattle.nv_values.specs.Names.{Text, is_class_name, IsClassName}
use Rattle.elf_definition.specs.Start.{Source}
use Rattle.elf_image_parts.specs.Pages.{Page}
use Rattle.class_definition.specs.NameGrammar.{same_text}
use Rattle.class_definition.specs.declared.class.Class.{Class}
use Rattle.class_definition.specs.MemberNames.{own_name, is_known, object_name, string_name, host_name, fields_of, field_signature}
use Rattle.class_definition.specs.LinkFault.{has_equal, twice_fault}
use Rattle.class_definition.specs.Linking.{linked_methods}
use Rattle.emit_layout.specs.ClassNames.{code_class_name, data_class_name}
use Rattle.emit_layout.specs.Numbers.{main_methods}
use Rattle.translate_classes.proofs.ClassMaking.ZipLemmas.{zip-joined}
use Rattle.translate_classes.specs.Tables.{references_of}
use Rattle.translate_classes.specs.Content.{has_meter}
use Rattle.translate_classes.specs.Main.{main_plans}
use Rattle.translate_classes_laws.specs.Before.{methods_before}
use Rattle.translate_classes_laws.specs.Distinct.{HasDistinctMembers}
use Rattle.translate_classes_laws.specs.Translated.{class_names, methods_of_code}
use Rattle.translate_classes_laws.proofs.LinkedNumbers.Fields.{fields-differ}
use Rattle.translate_classes_laws.proofs.LinkedNumbers.Names.{all-index, names-distinct, names-unknown, code-methods}
use Rattle.translate_classes_laws.proofs.LinkedNumbers.Numbers.{text-other}
use Rattle.translate_classes_laws.proofs.LinkedNumbers.Once.{nothing-twice}
use Rattle.translate_classes_laws.proofs.LinkedNumbers.Programs.{get-front, get-behind}
use Rattle.translate_classes_laws.proofs.LinkedNumbers.Signatures.{none-equal}
use Rattle.translate_program.specs.declared.named_file.NamedFile.{NamedFile}
use Rattle.translate_program.specs.Classes.{Placed, Follow, IsCodeFile}
use Rattle.translate_program.specs.DataFiles.{IsDataFile, class_count, class_number, filled_pages, first_method}
use Rattle.translate_program.specs.declared.built.Built.{Built}
use Rattle.translate_program.specs.Translation.{IsTranslationBy, code_methods}
use Rattle.nv_translate.specs.WholeCode.{HasWholeCode}
use Rattle.nv_translate.proofs.LinkedTranslations.Lists.{get-either, all-got, range-first}
use Rattle.nv_translate.proofs.LinkedTranslations.Few.{code-few, spans-few, data-few}
use Rattle.nv_translate.proofs.LinkedTranslations.Classes.{IsSpelled, classes_of, StandsAt, class-at, class-of, classes-long, classes-spelled, classes-named}
use Rattle.nv_translate.proofs.LinkedTranslations.Numbers.{code_class, data_class, data_classes_of, made-long, code-before, code-behind, data-before, methods-long}
use Rattle.nv_translate.proofs.LinkedTranslations.Knowing.{own-is}
use Rattle.nv_translate.proofs.LinkedTranslations.CodeMethods.{code-methods-are}
use Rattle.nv_translate.proofs.LinkedTranslations.DataMethods.{data-methods-are}
use Rattle.nv_translate.proofs.LinkedTranslations.MainMethods.{main-methods-are, main-fields-are}

-- ---- a name of a main class is not a known one

not-known : (name : Text) → IsClassName name → is_known name ≡ false
not-known name is =
    let object : same_text name object_name ≡ false = text-other name object_name (λ e. true≢false (sym is ∙ ap is_class_name e)) in
    let string : same_text name string_name ≡ false = text-other name string_name (λ e. true≢false (sym is ∙ ap is_class_name e)) in
    let host : same_text name host_name ≡ false = text-other name host_name (λ e. true≢false (sym is ∙ ap is_class_name e)) in
    or_from (same_text name object_name || same_text name string_name) (same_text name host_name)
    (or_from (same_text name object_name) (same_text name string_name) object string) host

-- ---- numbers of classes of code

names-follow : (name : Text) (number first : ℕ) (code : List Placed) → Follow number first code
    → map (λ (c : Placed). code_class_name name c.number) code ≡ map (code_class_name name) (range_with_len number (length code))
names-follow name number first [] follow = refl
names-follow name number first (c ∷ code) follow =
    λ i. code_class_name name (follow.0 i) ∷ names-follow name (number + 1) (c.first_method + length c.spans + 1) code follow.2 i

pub number-follows : (number first : ℕ) (code : List Placed) → Follow number first code → (i : ℕ) (c : Placed) → slice_get code i ≡ Some c
    → c.number ≡ number + i
number-follows number first [] follow i c e = absurd cc
number-follows number first (d ∷ code) follow zero c e =
    let one : d ≡ c = cc in
    let same = follow.0 in
    let none : number ≡ number + 0 = omega arith in
    ap (λ (x : Placed). x.number) (sym one) ∙ same ∙ none
number-follows number first (d ∷ code) follow (suc i) c e =
    let next : number + 1 + i ≡ number + suc i = omega arith in
    number-follows (number + 1) (d.first_method + length d.spans + 1) code follow.2 i c e ∙ next

no-fields : (c : Class) → c.fields ≡ [] → has_equal (fields_of c) ≡ false
no-fields c none = ap (λ fs. has_equal (map (field_signature c) fs)) none

-- a class that stands in a list behind one class and others
stands-behind : (c : Class) (front back : List Class) (n k : ℕ) (d : Class) → n ≡ suc (length front + k) → slice_get back k ≡ Some d
    → slice_get (c ∷ (front ++ back)) n ≡ Some d
stands-behind c front back n k d place there = ap (slice_get (c ∷ (front ++ back))) place ∙ get-behind front back k ∙ there

-- ---- the classes

module _ {meter : Option ℕ} (source : Source) (name : Text) (method_bytes : ℕ) (built : Built) (t : IsTranslationBy meter source name method_bytes built) where
  abbrev pub main_class : Class
  main_class = t.main_is.class_is.class

  abbrev pages : List Page
  pages = filled_pages source

  abbrev count : ℕ
  count = class_count pages

  abbrev methods : ℕ
  methods = code_methods t.code

  abbrev pub of_code : List Class
  of_code = classes_of (IsCodeFile name) (code_class name) t.code t.code_files t.code_are

  abbrev IsData : ℕ → NamedFile → Type 0
  IsData = IsDataFile name (length t.code) methods pages

  abbrev pub of_data : List Class
  of_data = data_classes_of name (length t.code) methods pages (range_with_len 0 count) t.data_files t.data_are

  abbrev pub all_classes : List Class
  all_classes = main_class ∷ (of_code ++ of_data)

  pub all-spelled : AllZip IsSpelled built.files.items all_classes
  all-spelled =
      subst (λ files. AllZip IsSpelled files all_classes) (sym t.files_are) (
        t.main_is.class_is.spells,
        zip-joined IsSpelled t.code_files of_code t.data_files of_data
            (classes-spelled (IsCodeFile name) (code_class name) (λ c f is. is.class.spells) t.code t.code_files t.code_are)
            (classes-spelled IsData (data_class name (length t.code) methods pages) (λ k f is. is.class_is.spells) (range_with_len 0 count) t.data_files t.data_are),
      )

  names-are : map own_name all_classes ≡ class_names name (length t.code) count
  names-are =
      let main : own_name main_class ≡ name = own-is main_class name t.main_is.class_is.named in
      let code : map own_name of_code ≡ map (code_class_name name) (range_with_len 0 (length t.code)) =
      classes-named (IsCodeFile name) (code_class name) (λ (c : Placed). code_class_name name c.number)
      (λ c f is. own-is is.class.class (code_class_name name c.number) is.class.named) t.code t.code_files t.code_are
      ∙ names-follow name 0 main_methods t.code t.code_is.placed.follow in
      let data_are : map own_name of_data ≡ map (data_class_name name) (range_with_len 0 count) =
      classes-named IsData (data_class name (length t.code) methods pages) (data_class_name name)
      (λ k f is. own-is is.class_is.class (data_class_name name k) is.class_is.named) (range_with_len 0 count) t.data_files t.data_are in
      ap (λ (names : List (List ℕ)). own_name main_class ∷ names) (map-append own_name of_code of_data) ∙ (λ i. main i ∷ (code i ++ data_are i))

  -- ---- no other class has fields

  other-without : (k : ℕ) (c : Class) → slice_get (of_code ++ of_data) k ≡ Some c → c.fields ≡ []
  other-without k c e = elim (get-either of_code of_data k c e) [
    | inl front ↦ let of = class-of (IsCodeFile name) (code_class name) t.code t.code_files t.code_are k c front in
        subst (λ (x : Class). x.fields ≡ []) of.same of.is.class.no_fields
    | inr behind ↦ let of = class-of IsData (data_class name (length t.code) methods pages) (range_with_len 0 count) t.data_files t.data_are behind.0 c behind.2 in
        subst (λ (x : Class). x.fields ≡ []) of.same of.is.class_is.no_fields
  ]

  pub others-without : All (λ (c : Class). c.fields ≡ []) (of_code ++ of_data)
  others-without = all-got (λ (c : Class). c.fields ≡ []) (of_code ++ of_data) other-without

  -- ---- the members of each class differ

  module _ (whole : HasWholeCode source) where
    distinct-of : (k : ℕ) (c : Class) → slice_get all_classes k ≡ Some c → HasDistinctMembers c
    distinct-of zero c e =
        let is = t.main_is.class_is in
        let one : main_class ≡ c = cc in
        subst HasDistinctMembers one (record {
          fields = ap has_equal (main-fields-are name t.main_is.main t.main_file.bytes.items is) ∙ fields-differ (has_meter t.main_is.main);
          methods = ap has_equal (main-methods-are name t.main_is.main t.main_file.bytes.items is);
        })
    distinct-of (suc k) c e = elim (get-either of_code of_data k c e) [
      | inl front ↦ let of = class-of (IsCodeFile name) (code_class name) t.code t.code_files t.code_are k c front in
          let few = spans-few source method_bytes t.code t.code_is k of.of of.at in
          subst HasDistinctMembers of.same (record {
            fields = no-fields of.is.class.class of.is.class.no_fields;
            methods =
                ap has_equal (code-methods-are name of.of of.file.bytes.items of.is.class)
                ∙ none-equal (methods_of_code (length of.of.spans)) (code-methods (length of.of.spans) few);
          })
      | inr behind ↦ let of = class-of IsData (data_class name (length t.code) methods pages) (range_with_len 0 count) t.data_files t.data_are behind.0 c behind.2 in
          subst HasDistinctMembers of.same (record {
            fields = no-fields of.is.class_is.class of.is.class_is.no_fields;
            methods = ap has_equal (data-methods-are name (length t.code) methods pages of.of of.file.bytes.items of.is.class_is);
          })
    ]

    pub nothing-stands-twice : IsClassName name → twice_fault [] 0 all_classes ≡ None
    nothing-stands-twice class_name =
        let n = length t.code in
        let few = code-few source method_bytes t.code whole t.code_is in
        let distinct = subst (IsDistinct same_text) (sym names-are) (names-distinct name n count few (data-few source)) in
        let unknown =
        subst (All (λ (x : List ℕ). is_known x ≡ false)) (sym names-are)
        (all-index (λ x. is_known x ≡ false) (class_names name n count) (names-unknown name n count (not-known name class_name))) in
        nothing-twice all_classes distinct unknown (all-got HasDistinctMembers all_classes distinct-of)

  -- ---- the numbers of their methods

  main-long : length main_class.methods ≡ 24
  main-long =
      let is = t.main_is.class_is in
      made-long main_class (main_plans t.main_is.main is.texts (references_of is.names 0 is.slots)) is.methods

  pub code-first : (i : ℕ) (c : Placed) → slice_get t.code i ≡ Some c → methods_before all_classes (suc i) ≡ c.first_method
  code-first i c e =
      ap (λ n. n + methods_before (of_code ++ of_data) i) main-long
      ∙ code-before name of_data 0 main_methods t.code t.code_files t.code_are t.code_is.placed.follow i c e

  behind-code : (k : ℕ) → k ≤ count → methods_before all_classes (suc (length t.code + k)) ≡ first_method methods k
  behind-code k within =
      let long : k ≤ length (range_with_len 0 count) = omega (arith, within, length-range_with_len 0 count) in
      ap (λ n. n + methods_before (of_code ++ of_data) (length t.code + k)) main-long
      ∙ code-behind name of_data 0 main_methods t.code t.code_files t.code_are t.code_is.placed.follow k
      ∙ ap (λ n. methods + n) (data-before name (length t.code) methods pages (range_with_len 0 count) t.data_files t.data_are k long)

  pub data-first : (k : ℕ) → k ≤ count → methods_before all_classes (class_number (length t.code) k) ≡ first_method methods k
  data-first k within =
      let place : length t.code + 1 + k ≡ suc (length t.code + k) = omega arith in
      ap (methods_before all_classes) place ∙ behind-code k within

  code-long : length of_code ≡ length t.code
  code-long = classes-long (IsCodeFile name) (code_class name) t.code t.code_files t.code_are

  data-long : length of_data ≡ count
  data-long =
      classes-long IsData (data_class name (length t.code) methods pages) (range_with_len 0 count) t.data_files t.data_are
      ∙ length-range_with_len 0 count

  pub no-more : (m : ℕ) → first_method methods count ≤ m → slice_get (linked_methods all_classes) m ≡ None
  no-more m above =
      let others : length (of_code ++ of_data) ≡ length t.code + count = omega (arith, length-append of_code of_data, code-long, data-long) in
      let total : length (linked_methods all_classes) ≡ first_method methods count =
      methods-long all_classes ∙ ap (λ n. methods_before all_classes (suc n)) others ∙ behind-code count (omega arith) in
      slice_get_past (linked_methods all_classes) m (omega (arith, total, above))

  -- ---- where they stand

  pub code-stands : (i : ℕ) (c : Placed) → slice_get t.code i ≡ Some c → StandsAt (IsCodeFile name) (code_class name) c all_classes (suc i)
  code-stands i c e =
      let at = class-at (IsCodeFile name) (code_class name) t.code t.code_files t.code_are i c e in
      record { file = at.file; is = at.is; there = get-front of_code of_data i (code_class name c at.file at.is) at.there }

  pub data-stands : (k : ℕ) → k < count → StandsAt IsData (data_class name (length t.code) methods pages) k all_classes (class_number (length t.code) k)
  data-stands k below =
      let number = range-first count k below in
      let at = class-at IsData (data_class name (length t.code) methods pages) (range_with_len 0 count) t.data_files t.data_are k k number in
      let place : length t.code + 1 + k ≡ suc (length of_code + k) = omega (arith, code-long) in
      record { file = at.file; is = at.is; there = stands-behind main_class of_code of_data (class_number (length t.code) k) k (data_class name (length t.code) methods pages k at.file at.is) place at.there }
