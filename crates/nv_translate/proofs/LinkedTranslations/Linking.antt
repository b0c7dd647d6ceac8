-- A translation links.
use Rattle.std.proofs.Common.{◌≡◌, ℕ, zero, suc, ◌+◌, ◌<◌, ◌≤◌, ◌==◌, Bool, true, false, if◌then◌else◌, List, [], ◌∷◌, ◌++◌, map, length, get_or, Option, Some, None, refl, sym, ap, subst, ◌∙◌, slice_get, ◌⊎◌, inl, inr, arith}
use Rattle.std.specs.Prelude.{codes, is_some, option_map}
use Rattle.std.proofs.lemmas.Bool.{or_left, or_right, eq-eqb}
use Rattle.std.proofs.lemmas.List.{length-map}
use Rattle.std.proofs.lemmas.Option.{slice_get-map, get_or_from_slice_get}
use Rattle.nv_values.specs.Names.{Text, IsClassName}
use Rattle.elf_definition.specs.Start.{Source}
use Rattle.class_definition.specs.declared.class.Class.{Class}
use Rattle.class_definition.specs.LinkFault.{twice_fault}
use Rattle.class_definition.specs.Linking.{descriptor_kind, program_of}
use Rattle.emit_program_laws.specs.SpanCodeLaws.LawfulUnits.{UnitsAreLawful}
use Rattle.emit_layout.specs.ClassNames.{code_class_name, data_class_name}
use Rattle.emit_layout.specs.Fields.{field_descriptor}
use Rattle.emit_layout.specs.Numbers.{main_methods, missing_number}
use Rattle.trampoline.specs.declared.start.Start.{Start}
use Rattle.emit_methods_laws.specs.Naming.{fields_of}
use Rattle.translate_classes.specs.Tables.{references_of}
use Rattle.translate_classes.specs.declared.content.MainClass.{MainClass}
use Rattle.translate_classes.specs.Content.{has_meter, main_fields}
use Rattle.translate_classes.specs.Code.{address}
use Rattle.translate_program.specs.Classes.{Placed, run_of, is_last, starts_of_class, starts_of}
use Rattle.translate_program.specs.DataFiles.{class_count, class_number, filled_pages, fill_of}
use Rattle.translate_program.specs.declared.built.Built.{Built}
use Rattle.translate_program.specs.Translation.{IsTranslationBy, code_methods}
use Rattle.translate_classes_laws.specs.Meaning.{NamesAreMeant}
use Rattle.nv_translate.specs.WholeCode.{HasWholeCode}
use Rattle.nv_translate.specs.Linked.{IsLinkedBy, HasCodeClass, HasDataClass}
use Rattle.nv_translate.proofs.LinkedTranslations.Lists.{mapped-get, mapped-length, get-either, get-one}
use Rattle.nv_translate.proofs.LinkedTranslations.Knowing.{HasMain, owner-no-host}
use Rattle.nv_translate.proofs.LinkedTranslations.Metered.{class-fields, fields-least}
use Rattle.nv_translate.proofs.LinkedTranslations.Lawful.{code-lawful}
use Rattle.nv_translate.proofs.LinkedTranslations.CodeMethods.{has-code, run-number}
use Rattle.nv_translate.proofs.LinkedTranslations.DataMethods.{has-data, fill-number}
use Rattle.nv_translate.proofs.LinkedTranslations.MainMethods.{has_number, HasNumber, HasOthers, has-main, fields-are, no-more-fields, first-is, texts-are, main-planned}
use Rattle.nv_translate.proofs.LinkedTranslations.Whole.{of_code, of_data, all_classes, all-spelled, others-without, nothing-stands-twice, code-first, data-first, no-more, number-follows, code-stands, data-stands}

-- ---- where the main class begins others

last-starts : (last : Bool) (at k : ℕ) (s : Start) → slice_get (if last then record { first = at; method = missing_number } ∷ [] else []) k ≡ Some s
    → s.method ≡ missing_number
last-starts true at k s e = let one = get-one (record { first = at; method = missing_number }) s k e in ap (λ (x : Start). x.method) (sym one)
last-starts false at k s e = absurd cc

one-called : (c : Placed) (k : ℕ) (s : Start) → slice_get (starts_of_class c) k ≡ Some s → (s.method ≡ run_of c) ⊎ (s.method ≡ missing_number)
one-called c zero s e = inl (let one = get-one (record { first = address c.part 0; method = run_of c }) s 0 cc in ap (λ (x : Start). x.method) (sym one))
one-called c (suc k) s e = inr (last-starts (is_last c.part) (address c.part c.part.words) k s e)

starts-called : (code : List Placed) (k : ℕ) (s : Start) → slice_get (starts_of code) k ≡ Some s
    → (has_number (map run_of code) s.method ≡ true) ⊎ (s.method ≡ missing_number)
starts-called [] k s e = absurd cc
starts-called (c ∷ code) k s e = elim (get-either (starts_of_class c) (starts_of code) k s e) [
  | inl front ↦ elim (one-called c k s front) [
    | inl run ↦ inl (or_left (run_of c == s.method) (has_number (map run_of code) s.method) (eq-eqb (run_of c) s.method (sym run)))
    | inr missing ↦ inr missing
  ]
  | inr behind ↦ elim (starts-called code behind.0 s behind.2) [
    | inl run ↦ inl (or_right (run_of c == s.method) (has_number (map run_of code) s.method) run)
    | inr missing ↦ inr missing
  ]
]

there-is : (code : List Placed) (i : ℕ) → i < length code → (c : Placed) × (slice_get code i ≡ Some c)
there-is [] i below = absurd (omega (arith, below))
there-is (c ∷ code) zero below = (c, refl)
there-is (c ∷ code) (suc i) below = there-is code i (omega (arith, below))

-- ---- the whole

module _ {meter : Option ℕ} (names-law : NamesAreMeant) (lawful-law : UnitsAreLawful) (source : Source) (name : Text) (method_bytes : ℕ) (built : Built) (whole : HasWholeCode source)
    (class_name : IsClassName name) (t : IsTranslationBy meter source name method_bytes built) where
  abbrev main : MainClass
  main = t.main_is.main

  abbrev classes : List Class
  classes = all_classes source name method_bytes built t

  abbrev others : List Class
  others = of_code source name method_bytes built t ++ of_data source name method_bytes built t

  once : twice_fault [] 0 classes ≡ None
  once = nothing-stands-twice source name method_bytes built t whole class_name

  main-there : HasMain (main_fields main) classes name
  main-there = has-main name main t.main_file.bytes.items t.main_is.class_is others once

  fields-few : (i : ℕ) (c : Placed) → slice_get t.code i ≡ Some c → fields_of c.part.metered ≤ main_fields main
  fields-few = class-fields source method_bytes t.code t.code_is main t.main_is.content.meter_is

  code-there : (i : ℕ) (c : Placed) → slice_get t.code i ≡ Some c → HasCodeClass (program_of classes) c
  code-there i c e =
      let at = code-stands source name method_bytes built t i c e in
      has-code name c at.file.bytes.items at.is.class names-law classes (main_fields main) (fields-few i c e) main-there once (suc i) at.there
      (code-first source name method_bytes built t i c e) (code-lawful lawful-law source method_bytes t.code whole t.code_is i c e)

  data-there : (k : ℕ) → k < class_count (filled_pages source)
      → HasDataClass (program_of classes) (length t.code) (code_methods t.code) (filled_pages source) k
  data-there k below =
      let at = data-stands source name method_bytes built t k below in
      has-data name (length t.code) (code_methods t.code) (filled_pages source) k at.file.bytes.items at.is.class_is names-law classes (main_fields main)
      (fields-least (has_meter main)) main-there once at.there (data-first source name method_bytes built t k (omega (arith, below)))

  -- ---- what the main class calls of the others

  code-number : (i : ℕ) (c : Placed) → slice_get t.code i ≡ Some c → HasNumber classes (code_class_name name i) (codes "run") (run_of c)
  code-number i c e =
      let at = code-stands source name method_bytes built t i c e in
      let is = at.is.class in
      let none : 0 + i ≡ i = omega arith in
      let number : c.number ≡ i = number-follows 0 main_methods t.code t.code_is.placed.follow i c e ∙ none in
      subst (λ j. HasNumber classes (code_class_name name j) (codes "run") (run_of c)) number (record {
        no_host = owner-no-host classes once (suc i) is.class at.there (code_class_name name c.number) is.named;
        number_is =
            run-number name c at.file.bytes.items is names-law classes (main_fields main) (fields-few i c e) main-there once (suc i) at.there
            (code-first source name method_bytes built t i c e) (code-lawful lawful-law source method_bytes t.code whole t.code_is i c e);
      })

  code-numbers : (i : ℕ) → i < length main.code.now → HasNumber classes (code_class_name name i) (codes "run") (get_or main.code.now i 0)
  code-numbers i below =
      let runs = t.main_is.content.code_is in
      let within : i < length t.code = omega (arith, below, ap length runs, length-map t.code run_of) in
      let found = there-is t.code i within in
      let c = found.0 in
      let there = found.1 in
      let run : slice_get main.code.now i ≡ Some (run_of c) =
      ap (λ (ns : List ℕ). slice_get ns i) runs ∙ slice_get-map run_of t.code i ∙ ap (option_map run_of) there in
      subst (HasNumber classes (code_class_name name i) (codes "run")) (sym (get_or_from_slice_get main.code.now i (run_of c) 0 run)) (code-number i c there)

  data-numbers : (i : ℕ) → i < length main.data.now → HasNumber classes (data_class_name name i) (codes "fill") (get_or main.data.now i 0)
  data-numbers i below =
      let fills = t.main_is.content.data_is in
      let methods = code_methods t.code in
      let count = class_count (filled_pages source) in
      let within : i < count = omega (arith, below, ap length fills, mapped-length (fill_of methods) count) in
      let at = data-stands source name method_bytes built t i within in
      let is = at.is.class_is in
      let fill : slice_get main.data.now i ≡ Some (fill_of methods i) =
      ap (λ (ns : List ℕ). slice_get ns i) fills ∙ mapped-get (fill_of methods) count i within in
      subst (HasNumber classes (data_class_name name i) (codes "fill")) (sym (get_or_from_slice_get main.data.now i (fill_of methods i) 0 fill)) (record {
        no_host = owner-no-host classes once (class_number (length t.code) i) is.class at.there (data_class_name name i) is.named;
        number_is =
            fill-number name (length t.code) methods (filled_pages source) i at.file.bytes.items is names-law classes (main_fields main)
            (fields-least (has_meter main)) main-there once at.there
            (data-first source name method_bytes built t i (omega (arith, within)));
      })

  others-there : HasOthers classes name main
  others-there = record { runs = code-numbers; fills = data-numbers }

  started : (k : ℕ) (s : Start) → slice_get main.starts.now k ≡ Some s → (has_number main.code.now s.method ≡ true) ⊎ (s.method ≡ missing_number)
  started k s e =
      let content = t.main_is.content in
      subst (λ ns. (has_number ns s.method ≡ true) ⊎ (s.method ≡ missing_number)) (sym content.code_is)
      (starts-called t.code k s (ap (λ (ss : List Start). slice_get ss k) (sym content.starts_are) ∙ e))

  -- the program has so many fields
  abbrev HasFields : ℕ → Type 0
  HasFields count = (f : ℕ) → f < count → (program_of classes).field f ≡ Some (descriptor_kind (field_descriptor f))

  abbrev HasNoMore : ℕ → Type 0
  HasNoMore count = (f : ℕ) → count ≤ f → (program_of classes).field f ≡ None

  pub translation-links : IsLinkedBy meter source name method_bytes built
  translation-links =
      let is = t.main_is.class_is in
      let bytes = t.main_file.bytes.items in
      let without = others-without source name method_bytes built t in
      record {
        code = t.code;
        some = t.some;
        code_is = t.code_is;
        spans_are = t.spans_are;
        blocks_are = t.blocks_are;
        main = main;
        content = t.main_is.content;
        classes = classes;
        spelled = all-spelled source name method_bytes built t;
        distinct = once;
        fields_are = subst (λ turns. HasFields (fields_of (is_some turns))) t.main_is.content.meter_is (fields-are name main bytes is others once without);
        no_more_fields = subst (λ turns. HasNoMore (fields_of (is_some turns))) t.main_is.content.meter_is
            (no-more-fields name main bytes is others once without);
        first_is = first-is name main bytes is others once;
        texts = is.texts;
        texts_are = texts-are name main bytes is others once;
        main_by = references_of is.names 0 is.slots;
        main_planned = main-planned name main bytes is others once names-law others-there started;
        code_has = code-there;
        no_more_methods = no-more source name method_bytes built t;
        data_has = data-there;
      }
