-- The classes of a translation link.
use Rattle.std.proofs.Common.{◌≡◌, ℕ, zero, suc, ◌+◌, ◌<◌, ◌≤◌, true, List, [], ◌∷◌, ◌++◌, length, Option, Some, None, refl, ap, subst, ◌∙◌, slice_get, length-append, arith}
use Rattle.std.specs.Prelude.{codes}
use Rattle.std.specs.List.{AllZip}
use Rattle.std.proofs.lemmas.List.{length-map}
use Rattle.std.proofs.lemmas.Slice.Zip.{AllZip-long}
use Rattle.nv_values.specs.Names.{Text}
use Rattle.elf_definition.specs.Start.{Source}
use Rattle.class_definition.specs.declared.entry.Entry.{Entry}
use Rattle.class_definition.specs.declared.class.Class.{Class}
use Rattle.class_definition.specs.MemberNames.{methods_of}
use Rattle.class_definition.specs.LinkFault.{named_entry_fault, run_signature, twice_fault, link_fault}
use Rattle.emit_layout.specs.ClassNames.{code_class_name, data_class_name}
use Rattle.emit_layout.specs.Numbers.{main_methods}
use Rattle.emit_classes.specs.Mentioned.{OfClass, method_mention}
use Rattle.emit_methods_laws.specs.Naming.{fields_of}
use Rattle.translate_classes.specs.Making.{nothing}
use Rattle.translate_classes.specs.declared.content.MainClass.{MainClass}
use Rattle.translate_classes.specs.declared.other_class.OtherClass.TheVariants.{Code, Data}
use Rattle.translate_classes.specs.Content.{has_meter, main_fields}
use Rattle.translate_classes.specs.MainMentioned.{main_mentions}
use Rattle.translate_classes.specs.CodeNaming.{code_mentions}
use Rattle.translate_classes.specs.DataNaming.{data_mentions}
use Rattle.translate_classes_laws.proofs.LinkedNumbers.Found.{links}
use Rattle.translate_program.specs.Classes.{Placed, IsCodeFile, run_of}
use Rattle.translate_program.specs.DataFiles.{class_number, filled_pages, first_method, pages_of_class, fill_of}
use Rattle.translate_program.specs.declared.named_file.NamedFile.{NamedFile}
use Rattle.translate_program.specs.declared.built.Built.{Built}
use Rattle.translate_program.specs.Translation.{IsTranslationBy, code_methods}
use Rattle.translate_program.proofs.Counts.PageLemmas.{data-few}
use Rattle.nv_translate.specs.AcceptedCode.{HasAcceptedCode}
use Rattle.nv_translate.proofs.LinkedTranslations.Lists.{mapped-length}
use Rattle.nv_translate.proofs.LinkedTranslations.Metered.{class-fields, fields-least}
use Rattle.nv_translate.proofs.LinkedTranslations.Whole.{number-follows}
use Rattle.nv_translate.proofs.AcceptedTranslations.Meant.{is_meant, entries-meant}
use Rattle.nv_translate.proofs.AcceptedTranslations.Few.{code-few}
use Rattle.nv_translate.proofs.AcceptedTranslations.Mentions.{NamesPass, OtherPasses, main-pass}
use Rattle.nv_translate.proofs.AcceptedTranslations.MainMeant.{names-meant, own-meant, run-there}
use Rattle.nv_translate.proofs.AcceptedTranslations.OthersMeant.{code-class, code-run, code-meant, data-class, data-fill, data-meant}
use Rattle.nv_translate.proofs.AcceptedTranslations.Classes.{IsSpelled, count, IsData, others, all-spelled, code-long, data-long, main-there, code-there, data-there, each-class}

-- ---- classes of code

placed-at : (code : List Placed) (i : ℕ) → i < length code → (c : Placed) × (slice_get code i ≡ Some c)
placed-at [] i below = absurd (omega (arith, below))
placed-at (c ∷ code) zero below = (c, refl)
placed-at (c ∷ code) (suc i) below = placed-at code i (omega (arith, below))

-- ---- a first class, and others

links-from : (classes : List Class) (c : Class) (k : ℕ) → slice_get classes 0 ≡ Some c → length classes ≤ 1024 → twice_fault [] 0 classes ≡ None
    → ((n slot : ℕ) (d : Class) (e : Entry) → slice_get classes n ≡ Some d → slice_get d.pool slot ≡ Some e → named_entry_fault classes d e ≡ None)
    → slice_get (methods_of c) k ≡ Some run_signature → link_fault classes ≡ None
links-from [] c k first few once each run = absurd cc
links-from (d ∷ others) c k first few once each run =
    let one : c ≡ d = cc in
    links d others k few once each (subst (λ (x : Class). slice_get (methods_of x) k ≡ Some run_signature) one run)

module _ {meter : Option ℕ} (source : Source) (name : Text) (method_bytes : ℕ) (built : Built) (t : IsTranslationBy meter source name method_bytes built)
    (classes : List Class) (spelled : AllZip IsSpelled built.files.items classes) where
  abbrev main : MainClass
  main = t.main_is.main

  pub few : HasAcceptedCode source → length classes ≤ 1024
  few has =
      let long = AllZip-long IsSpelled (t.main_file ∷ (t.code_files ++ t.data_files)) classes (all-spelled source name method_bytes built t classes spelled) in
      omega (
        arith,
        long,
        length-append t.code_files t.data_files,
        code-long source name method_bytes built t classes spelled,
        data-long source name method_bytes built t classes spelled,
        code-few source method_bytes t.code has t.code_is,
        data-few source,
      )

  pub runs-long : length main.code.now ≡ length t.code
  runs-long = ap length t.main_is.content.code_is ∙ length-map t.code run_of

  pub fills-long : length main.data.now ≡ count source name method_bytes built t classes spelled
  fills-long =
      ap length t.main_is.content.data_is
      ∙ mapped-length (fill_of (code_methods t.code)) (count source name method_bytes built t classes spelled)

  module _ (once : twice_fault [] 0 classes ≡ None) where
    there : slice_get classes 0 ≡ Some t.main_is.class_is.class
    there = main-there source name method_bytes built t classes spelled

    names : NamesPass (is_meant classes) name (main_fields main)
    names = names-meant name main t.main_file.bytes.items t.main_is.class_is classes once there

    code-other : (i : ℕ) → i < 0 + length main.code.now → OtherPasses (is_meant classes) name Code i
    code-other i below =
        let found = placed-at t.code i (omega (arith, below, runs-long)) in
        let c = found.0 in
        let at = found.1 in
        let stands = code-there source name method_bytes built t classes spelled i c at in
        let bytes = stands.file.bytes.items in
        let none : 0 + i ≡ i = omega arith in
        let number : c.number ≡ i = number-follows 0 main_methods t.code t.code_is.placed.follow i c at ∙ none in
        record {
          class =
              subst (λ j. is_meant classes (OfClass (code_class_name name j)) ≡ true) number
              (code-class name c bytes stands.is.class classes once (suc i) stands.there);
          method =
              subst (λ j. is_meant classes (method_mention (code_class_name name j) (codes "run") nothing) ≡ true) number
              (code-run name c bytes stands.is.class classes once (suc i) stands.there);
        }

    abbrev number_of : ℕ → ℕ
    number_of k = class_number (length t.code) k

    abbrev first_of : ℕ → ℕ
    first_of k = first_method (code_methods t.code) k

    data-other : (k : ℕ) → k < 0 + length main.data.now → OtherPasses (is_meant classes) name Data k
    data-other k below =
        let stands = data-there source name method_bytes built t classes spelled k (omega (arith, below, fills-long)) in
        let bytes = stands.file.bytes.items in
        let place = suc (length t.code_files + k) in
        let pages = pages_of_class (filled_pages source) k in
        record {
          class = data-class name k (number_of k) (first_of k) pages bytes stands.is.class_is classes once place stands.there;
          method = data-fill name k (number_of k) (first_of k) pages bytes stands.is.class_is classes once place stands.there;
        }

    main-entries : (slot : ℕ) (e : Entry) → slice_get t.main_is.class_is.class.pool slot ≡ Some e → named_entry_fault classes t.main_is.class_is.class e ≡ None
    main-entries =
        entries-meant classes t.main_is.class_is.class (main_mentions name main) t.main_is.class_is.mentions
        (main-pass (is_meant classes) name main names (own-meant name main t.main_file.bytes.items t.main_is.class_is classes once there) code-other data-other)

    code-entries : (i : ℕ) (c : Placed) (file : NamedFile) (is : IsCodeFile name c file) → slice_get t.code i ≡ Some c
        → slice_get classes (suc i) ≡ Some is.class.class → (slot : ℕ) (e : Entry) → slice_get is.class.class.pool slot ≡ Some e → named_entry_fault classes is.class.class e ≡ None
    code-entries i c file is at stands =
        entries-meant classes is.class.class (code_mentions (fields_of c.part.metered) (code_class_name name c.number) name (length c.spans)) is.class.mentions
        (code-meant name c file.bytes.items is.class classes once (suc i) stands (main_fields main) names
        (class-fields source method_bytes t.code t.code_is main t.main_is.content.meter_is i c at))

    data-entries : (k : ℕ) (file : NamedFile) (is : IsData source name method_bytes built t classes spelled k file)
        → k < count source name method_bytes built t classes spelled → slice_get classes (suc (length t.code_files + k)) ≡ Some is.class_is.class
        → (slot : ℕ) (e : Entry) → slice_get is.class_is.class.pool slot ≡ Some e → named_entry_fault classes is.class_is.class e ≡ None
    data-entries k file is below stands =
        entries-meant classes is.class_is.class (data_mentions (data_class_name name k) name) is.class_is.mentions
        (data-meant name k (number_of k) (first_of k) (pages_of_class (filled_pages source) k) file.bytes.items is.class_is classes once
        (suc (length t.code_files + k)) stands (main_fields main) names (fields-least (has_meter main)))

    entries : (n slot : ℕ) (d : Class) (e : Entry) → slice_get classes n ≡ Some d → slice_get d.pool slot ≡ Some e → named_entry_fault classes d e ≡ None
    entries n slot d e at here =
        each-class source name method_bytes built t classes spelled (λ d. (slot : ℕ) (e : Entry) → slice_get d.pool slot ≡ Some e → named_entry_fault classes d e ≡ None)
        main-entries code-entries data-entries n d at slot e here

    pub classes-link : HasAcceptedCode source → link_fault classes ≡ None
    classes-link has =
        links-from classes t.main_is.class_is.class 20 there (few has) once entries (run-there name main t.main_file.bytes.items t.main_is.class_is)
