-- The main class of a translation asks for the other classes, in order, and no class asks for more.
use Rattle.std.proofs.Common.{◌≡◌, ℕ, suc, ◌+◌, ◌<◌, ◌≤◌, Bool, true, false, ◌&&◌, List, [], ◌∷◌, ◌++◌, map, length, Option, Some, None, refl, sym, ap, subst, ◌∙◌, slice_get, length-append, arith}
use Rattle.std.specs.Prelude.{codes, not, nat_lt, unwrap_or, decimal}
use Rattle.std.specs.List.{AllZip, IsDistinct, list_all, range_with_len}
use Rattle.std.proofs.lemmas.Bool.{and_parts, or_from, true≢false}
use Rattle.std.proofs.lemmas.Option.{slice_get_within}
use Rattle.nv_values.specs.Names.{Text, is_letter, is_letter_or_digit, IsClassName}
use Rattle.elf_definition.specs.Start.{Source}
use Rattle.class_definition.specs.NameGrammar.{same_text, is_array_name}
use Rattle.class_definition.specs.declared.class.Class.{Class}
use Rattle.class_definition.specs.ClassFile.{Spells}
use Rattle.class_definition.specs.MemberNames.{own_name, is_known, object_name, string_name, host_name, length_signature, char_at_signature, host_call_signature, host_fault_signature}
use Rattle.class_definition.specs.LinkFault.{twice_fault}
use Rattle.class_sets.specs.ClassSets.{is_among, names_asked}
use Rattle.class_sets.specs.Waiting.{fresh}
use Rattle.emit_layout.specs.ClassNames.{code_class_name, data_class_name, span_name}
use Rattle.emit_layout.specs.Helpers.{helper_name, helper_descriptor}
use Rattle.emit_layout.specs.Numbers.{main_methods}
use Rattle.emit_classes.specs.Sound.{IsPool}
use Rattle.emit_classes.specs.Mentioned.{OfClass, method_mention, classes_among}
use Rattle.emit_classes.proofs.Classes.{class-parts}
use Rattle.emit_methods_laws.specs.Naming.{fields_of}
use Rattle.translate_classes.specs.Making.{nothing}
use Rattle.translate_classes.specs.Mentioned.{called}
use Rattle.translate_classes.specs.declared.content.MainClass.{MainClass}
use Rattle.translate_classes.specs.declared.other_class.OtherClass.TheVariants.{Code, Data}
use Rattle.translate_classes.specs.Called.{class_name}
use Rattle.translate_classes.specs.Content.{has_meter, main_fields}
use Rattle.translate_classes.specs.MainMentioned.{main_mentions}
use Rattle.translate_classes.proofs.MainClasses.ClassLemmas.{main-classes}
use Rattle.translate_classes.specs.CodeNaming.{code_mentions}
use Rattle.translate_classes.specs.DataNaming.{data_mentions}
use Rattle.translate_classes_laws.proofs.LinkedNumbers.Names.{names-distinct, names-unknown}
use Rattle.translate_classes_laws.proofs.LinkedNumbers.Numbers.{text-other, own-unknown}
use Rattle.translate_classes_laws.proofs.LinkedNumbers.Programs.{get-front, get-behind}
use Rattle.translate_program.specs.declared.named_file.NamedFile.{NamedFile}
use Rattle.translate_program.specs.Classes.{Placed, IsCodeFile}
use Rattle.translate_program.specs.declared.built.Built.{Built}
use Rattle.translate_program.specs.Translation.{IsTranslationBy}
use Rattle.translate_program.proofs.Counts.PageLemmas.{data-few}
use Rattle.nv_translate.specs.AcceptedCode.{HasAcceptedCode}
use Rattle.nv_translate.proofs.LinkedTranslations.Lists.{mapped-get, mapped-length}
use Rattle.nv_translate.proofs.AcceptedTranslations.Passing.{pass-joined, pass-range}
use Rattle.nv_translate.proofs.AcceptedTranslations.Asking.{asked_of, names-asked, is_old, old-known, known-dropped, nothing-asked, distinct-behind, files-kept, among-there}
use Rattle.nv_translate.proofs.AcceptedTranslations.Few.{code-few}
use Rattle.nv_translate.proofs.AcceptedTranslations.Mentions.{NamesPass, three, code-pass, data-pass, own-pass, main-pass}
use Rattle.nv_translate.proofs.AcceptedTranslations.Classes.{IsSpelled, count, IsData, main-there, each-class}
use Rattle.nv_translate.proofs.LinkedTranslations.Metered.{class-fields, fields-least}
use Rattle.nv_translate.proofs.LinkedTranslations.Whole.{number-follows}
use Rattle.nv_translate.proofs.AcceptedTranslations.Linking.{runs-long, fills-long}

-- ---- names that are no types of arrays: they begin with a letter

abbrev begins : List ℕ → Bool
begins [] = false
begins (b ∷ bs) = is_letter b

class-begins : (name : Text) → IsClassName name → begins name ≡ true
class-begins [] is = absurd cc
class-begins (b ∷ bs) is =
    (and_parts (is_letter b) (list_all is_letter_or_digit bs) (and_parts (is_letter b && list_all is_letter_or_digit bs) (nat_lt (length bs) 64) is).0).0

more-begins : (xs ys : List ℕ) → begins xs ≡ true → begins (xs ++ ys) ≡ true
more-begins [] ys is = absurd cc
more-begins (x ∷ xs) ys is = is

no-array : (x : List ℕ) → begins x ≡ true → not (is_array_name x) ≡ true
no-array x is =
    ap not (or_from (same_text x (codes "[I")) (same_text x (codes "[[I"))
    (text-other x (codes "[I") (λ e. true≢false (sym is ∙ ap begins e))) (text-other x (codes "[[I") (λ e. true≢false (sym is ∙ ap begins e))))

-- ---- what every class names is known, if the main class is

names-old : (known : List (List ℕ)) (name : List ℕ) (fields : ℕ) → is_among known name ≡ true → NamesPass (is_old known) name fields
names-old known name fields is = record {
  class = old-known known name is;
  object = refl;
  each_field = λ k below. refl;
  host = three (is_old known) name (OfClass host_name) (called host_name host_call_signature) (called host_name host_fault_signature) refl refl refl;
  string = three (is_old known) name (OfClass string_name) (called string_name length_signature) (called string_name char_at_signature) refl refl refl;
  ints = refl;
  helpers = pass-range (is_old known) (λ k. method_mention name (helper_name k) (helper_descriptor k)) 0 20 (λ k below. refl);
}

-- ---- what the main class asks for beside itself

main-new : (name : List ℕ) (m : MainClass)
    → asked_of (name ∷ []) (classes_among (main_mentions name m))
    ≡ asked_of (name ∷ []) (map (class_name Code name) (range_with_len 0 (length m.code.now)) ++ map (class_name Data name) (range_with_len 0 (length m.data.now)))
main-new name m =
    let known : List (List ℕ) = name ∷ [] in
    let others : List (List ℕ) =
    host_name ∷ string_name ∷ codes "[I" ∷ (map (class_name Code name) (range_with_len 0 (length m.code.now)) ++ map (class_name Data name) (range_with_len 0 (length m.data.now))) in
    let itself = among-there known 0 name refl in
    ap (asked_of known) (main-classes name m)
    ∙ known-dropped known (object_name ∷ name ∷ others) name itself
    ∙ known-dropped known others name itself

-- ---- the classes of a translation

module _ {meter : Option ℕ} (source : Source) (name : Text) (method_bytes : ℕ) (built : Built) (t : IsTranslationBy meter source name method_bytes built)
    (classes : List Class) (spelled : AllZip IsSpelled built.files.items classes) where
  abbrev main : MainClass
  main = t.main_is.main

  abbrev data_classes : ℕ
  data_classes = count source name method_bytes built t classes spelled

  abbrev code_names : List (List ℕ)
  code_names = map (code_class_name name) (range_with_len 0 (length t.code))

  abbrev data_names : List (List ℕ)
  data_names = map (data_class_name name) (range_with_len 0 data_classes)

  abbrev pub other_names : List (List ℕ)
  other_names = code_names ++ data_names

  abbrev pub all_names : List (List ℕ)
  all_names = name ∷ other_names

  code-among : (i : ℕ) → i < length t.code → is_among all_names (code_class_name name i) ≡ true
  code-among i below =
      among-there all_names (suc i) (code_class_name name i)
      (get-front code_names data_names i (code_class_name name i) (mapped-get (code_class_name name) (length t.code) i below))

  data-among : (k : ℕ) → k < data_classes → is_among all_names (data_class_name name k) ≡ true
  data-among k below =
      among-there all_names (suc (length code_names + k)) (data_class_name name k)
      (get-behind code_names data_names k ∙ mapped-get (data_class_name name) data_classes k below)

  all-old : NamesPass (is_old all_names) name (main_fields main)
  all-old = names-old all_names name (main_fields main) (among-there all_names 0 name refl)

  sound : (bytes : List ℕ) (c : Class) → Spells bytes c → IsPool c.pool
  sound bytes c spells = (class-parts c spells.fits).pool_is

  main-nothing : fresh all_names (names_asked t.main_is.class_is.class) ≡ []
  main-nothing =
      let is = t.main_is.class_is in
      let runs = runs-long source name method_bytes built t classes spelled in
      let fills = fills-long source name method_bytes built t classes spelled in
      names-asked is.class (main_mentions name main) (sound t.main_file.bytes.items is.class is.spells) is.mentions all_names
      ∙ nothing-asked all_names (main_mentions name main)
      (main-pass (is_old all_names) name main all-old (own-pass (is_old all_names) name (main_fields main) all-old refl refl refl)
      (λ i below. record { class = old-known all_names (code_class_name name i) (code-among i (omega (arith, below, runs))); method = refl })
      (λ k below. record { class = old-known all_names (data_class_name name k) (data-among k (omega (arith, below, fills))); method = refl }))

  code-nothing : (i : ℕ) (c : Placed) (file : NamedFile) (is : IsCodeFile name c file) → i < length t.code → slice_get t.code i ≡ Some c
      → fresh all_names (names_asked is.class.class) ≡ []
  code-nothing i c file is below at =
      let none : 0 + i ≡ i = omega arith in
      let number : c.number ≡ i = number-follows 0 main_methods t.code t.code_is.placed.follow i c at ∙ none in
      let own = code_class_name name c.number in
      let there : is_among all_names own ≡ true = subst (λ j. is_among all_names (code_class_name name j) ≡ true) (sym number) (code-among i below) in
      names-asked is.class.class (code_mentions (fields_of c.part.metered) own name (length c.spans)) (sound file.bytes.items is.class.class is.class.spells) is.class.mentions all_names
      ∙ nothing-asked all_names (code_mentions (fields_of c.part.metered) own name (length c.spans))
      (code-pass (is_old all_names) name (main_fields main) (fields_of c.part.metered) all-old
      (class-fields source method_bytes t.code t.code_is main t.main_is.content.meter_is i c at) own (length c.spans) (old-known all_names own there)
      (pass-range (is_old all_names) (λ k. method_mention own (span_name k) nothing) 0 (length c.spans) (λ k low. refl)))

  data-nothing : (k : ℕ) (file : NamedFile) (is : IsData source name method_bytes built t classes spelled k file) → k < data_classes
      → fresh all_names (names_asked is.class_is.class) ≡ []
  data-nothing k file is below =
      let own = data_class_name name k in
      names-asked is.class_is.class (data_mentions own name) (sound file.bytes.items is.class_is.class is.class_is.spells) is.class_is.mentions all_names
      ∙ nothing-asked all_names (data_mentions own name)
      (data-pass (is_old all_names) name (main_fields main) all-old (fields-least (has_meter main)) own (old-known all_names own (data-among k below)) refl)

  pub nothing-new : (n : ℕ) (d : Class) → slice_get classes n ≡ Some d → fresh all_names (names_asked d) ≡ []
  nothing-new n d at =
      each-class source name method_bytes built t classes spelled (λ c. fresh all_names (names_asked c) ≡ []) main-nothing
      (λ i c file is there stands. code-nothing i c file is (slice_get_within t.code i c there) there)
      (λ k file is below stands. data-nothing k file is below) n d at

  -- ---- the names of the others differ, and have files

  module _ (once : twice_fault [] 0 classes ≡ None) (has : HasAcceptedCode source) (class_name_is : IsClassName name) where
    code_few : length t.code ≤ 235
    code_few = code-few source method_bytes t.code has t.code_is

    data_few : data_classes ≤ 512
    data_few = data-few source

    differ : IsDistinct same_text all_names
    differ = names-distinct name (length t.code) data_classes (omega (arith, code_few)) (omega (arith, data_few))

    pub others-once : fresh (name ∷ []) other_names ≡ other_names
    others-once = distinct-behind name other_names differ

    unknown : is_known name ≡ false
    unknown =
        let is = t.main_is.class_is in
        let own : own_name is.class ≡ name = ap (λ o. unwrap_or o []) is.named in
        subst (λ x. is_known x ≡ false) own (own-unknown [] 0 classes 0 is.class once (main-there source name method_bytes built t classes spelled))

    no-arrays : list_all (λ x. not (is_array_name x)) other_names ≡ true
    no-arrays =
        let test : List ℕ → Bool = λ x. not (is_array_name x) in
        let first = class-begins name class_name_is in
        pass-joined test code_names data_names
        (pass-range test (code_class_name name) 0 (length t.code) (λ i below. no-array (code_class_name name i)
        (more-begins (name ++ codes "_") (decimal i) (more-begins name (codes "_") first))))
        (pass-range test (data_class_name name) 0 data_classes (λ k below. no-array (data_class_name name k)
        (more-begins (name ++ codes "_D") (decimal k) (more-begins name (codes "_D") first))))

    pub main-asks : fresh (name ∷ []) (names_asked t.main_is.class_is.class) ≡ other_names
    main-asks =
        let is = t.main_is.class_is in
        let runs = runs-long source name method_bytes built t classes spelled in
        let fills = fills-long source name method_bytes built t classes spelled in
        names-asked is.class (main_mentions name main) (sound t.main_file.bytes.items is.class is.spells) is.mentions (name ∷ [])
        ∙ main-new name main
        ∙ (λ i. asked_of (name ∷ []) (map (code_class_name name) (range_with_len 0 (runs i)) ++ map (data_class_name name) (range_with_len 0 (fills i))))
        ∙ ap (fresh (name ∷ [])) (files-kept other_names (names-unknown name (length t.code) data_classes unknown).1 no-arrays)
        ∙ others-once

    pub others-few : length other_names ≤ 1024
    others-few =
        omega (
          arith,
          code_few,
          data_few,
          length-append code_names data_names,
          mapped-length (code_class_name name) (length t.code),
          mapped-length (data_class_name name) data_classes,
        )
