-- The methods of a class of data are what they were planned to be.
use Rattle.std.proofs.Common.{◌≡◌, ℕ, zero, suc, ◌+◌, ◌-◌, ◌<◌, ◌≤◌, true, false, List, [], ◌∷◌, Some, None, refl, ap, subst, ◌∙◌, slice_get, arith}
use Rattle.std.specs.Prelude.{codes, slice_index_or}
use Rattle.std.specs.Cmp.Derive.{both_true}
use Rattle.std.proofs.lemmas.Bool.{le-leb, lt-ltb}
use Rattle.elf_image_parts.specs.Pages.{Page}
use Rattle.class_definition.specs.declared.entry.Entry.TheVariants.{MethodRef}
use Rattle.class_definition.specs.declared.class.Class.{Class}
use Rattle.class_definition.specs.MemberNames.{Signature, signature, reference_to, methods_of, method_number}
use Rattle.class_definition.specs.LinkFault.{twice_fault}
use Rattle.class_definition.specs.Linking.{class_characters, program_of}
use Rattle.emit_layout.specs.ClassNames.{data_class_name}
use Rattle.emit_loading.specs.declared.page_slot.PageSlot.{PageSlot}
use Rattle.emit_loading.specs.Words.{words_code}
use Rattle.emit_loading.specs.Filling.{fill_code}
use Rattle.data_strings.specs.Texts.{page_text}
use Rattle.emit_assembly.specs.declared.references.References.{References}
use Rattle.emit_assembly.specs.Assembling.{has_method}
use Rattle.emit_assembly.proofs.Pools.{extends-itself}
use Rattle.emit_classes.specs.Named.{IsMethodAt}
use Rattle.emit_methods_laws.proofs.NamedCode.Loading.{words-well, fill-well}
use Rattle.translate_classes.specs.Named.{AreMembers}
use Rattle.translate_classes.specs.Tables.{references_of}
use Rattle.translate_classes.specs.Making.{Plan, nothing}
use Rattle.translate_classes.proofs.ClassMaking.ZipLemmas.{zip-through}
use Rattle.translate_classes.specs.Pages.{IsPageSlot}
use Rattle.translate_classes.specs.DataNaming.{words_descriptor}
use Rattle.translate_classes.specs.Data.{IsDataClass, words_plan, fill_plan}
use Rattle.translate_classes_laws.specs.Before.{methods_before}
use Rattle.translate_classes_laws.specs.Translated.{methods_of_data}
use Rattle.translate_classes_laws.proofs.LinkedNumbers.Made.{methods-made}
use Rattle.translate_classes_laws.specs.Meaning.{AreCalled, AreMeant, NamesAreMeant}
use Rattle.translate_classes_laws.proofs.NamedCode.Meant.{members-called}
use Rattle.translate_classes_laws.proofs.NamedCode.Known.{code-known}
use Rattle.translate_program.specs.DataFiles.{class_number, first_method, fill_of, pages_of_class}
use Rattle.nv_translate.specs.Linked.{SpellsPage, HasDataClass}
use Rattle.nv_translate.proofs.LinkedTranslations.Knowing.{HasMain, fewer-fields, slot-law, owner-no-host, methods-numbered, method-at}
use Rattle.nv_translate.proofs.LinkedTranslations.Planned.{Knows, are-planned, text-is}

module _ (name : List ℕ) (code_classes methods : ℕ) (pages : List Page) (i : ℕ) (bytes : List ℕ)
    (is : IsDataClass name i (class_number code_classes i) (first_method methods i) (pages_of_class pages i) bytes) where
  abbrev n : ℕ
  n = class_number code_classes i

  abbrev first : ℕ
  first = first_method methods i

  abbrev by : References
  by = references_of is.names first (is.words ∷ [])

  abbrev plans : List Plan
  plans = words_plan by ∷ fill_plan is.texts n first by ∷ []

  pub data-methods-are : methods_of is.class ≡ methods_of_data
  data-methods-are = methods-made is.class is.class.methods plans is.methods

  pub fill-method : slice_get (methods_of is.class) 1 ≡ Some (signature (codes "fill") nothing)
  fill-method = ap (λ (ms : List Signature). slice_get ms 1) data-methods-are

  words-method : (k : ℕ) → k < 1 → slice_get (methods_of is.class) k ≡ Some (signature (codes "words") words_descriptor)
  words-method zero below = ap (λ (ms : List Signature). slice_get ms 0) data-methods-are
  words-method (suc k) below = absurd (omega (arith, below))

  own-members : AreMembers MethodRef (λ k. codes "words") (λ k. words_descriptor) is.class.pool is.own (is.words ∷ []) 1
  own-members = record { count_is = refl; each = each }
    where
      each : (k : ℕ) → k < 1 → IsMethodAt is.class.pool (slice_index_or (is.words ∷ []) k 0) is.own (codes "words") words_descriptor
      each zero below = is.names_are.words_is
      each (suc k) below = absurd (omega (arith, below))

  -- ---- in the program

  module _ (law : NamesAreMeant) (classes : List Class) (count : ℕ) (few : 38 ≤ count) (has : HasMain count classes name) (once : twice_fault [] 0 classes ≡ None)
      (there : slice_get classes n ≡ Some is.class) (before : methods_before classes n ≡ first) where
    abbrev own : List ℕ
    own = data_class_name name i

    meant : AreMeant 38 by classes n is.class
    meant =
        law 38 classes n is.class is.class.pool name is.names first (is.words ∷ []) (extends-itself is.class.pool) is.names_are.names_are
        (fewer-fields count 38 classes name few has)

    called : AreCalled by classes n is.class (has_method by)
    called =
        members-called slot-law by classes n is.class is.class.pool (extends-itself is.class.pool) is.own 1 own (λ k. codes "words")
        (λ k. words_descriptor) is.names_are.own_is (owner-no-host classes once n is.class there own is.named) own-members
        (methods-numbered classes once n is.class there own is.named (λ k. codes "words") (λ k. words_descriptor) first 1 before words-method)

    pub fill-number : method_number classes (reference_to own (signature (codes "fill") nothing)) ≡ Some (fill_of methods i)
    fill-number =
        method-at classes once n is.class there own is.named 1 (signature (codes "fill") nothing) fill-method ∙ ap (λ b. Some (b + 1)) before

    words-has : has_method by first ≡ true
    words-has = both_true (le-leb first first (omega arith)) (lt-ltb (first - first) 1 (omega arith))

    knows : (k : ℕ) (p : Plan) → slice_get plans k ≡ Some p → Knows classes n is.class there p
    knows zero p e =
        let one : words_plan by ≡ p = cc in
        subst (Knows classes n is.class there) one
        (code-known 38 by classes n is.class (has_method by) false meant called words_code (words-well (has_method by) n))
    knows (suc zero) p e =
        let one : fill_plan is.texts n first by ≡ p = cc in
        subst (Knows classes n is.class there) one
        (code-known 38 by classes n is.class (has_method by) false meant called (fill_code is.texts n first)
        (fill-well (has_method by) n is.texts first words-has))
    knows (suc (suc k)) p e = absurd cc

    spells : (slot : PageSlot) (page : Page) → IsPageSlot is.class.pool slot page → SpellsPage (program_of classes) n slot page
    spells slot page at = record {
      page_is = at.page_is;
      text_is = ap (λ c. class_characters c slot.slot) there ∙ text-is is.class slot.slot (page_text page.words) at.text_is;
    }

    pub has-data : HasDataClass (program_of classes) code_classes methods pages i
    has-data = record {
      by = by;
      texts = is.texts;
      texts_are =
          zip-through (IsPageSlot is.class.pool) (SpellsPage (program_of classes) n) spells is.texts (pages_of_class pages i) is.names_are.texts_are;
      planned = are-planned classes n is.class there first plans is.methods before knows;
    }
