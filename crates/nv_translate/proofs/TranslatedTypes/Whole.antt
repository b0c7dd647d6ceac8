-- All methods of a linked translation.
use Rattle.std.proofs.Common.{◌≡◌, ℕ, ◌<◌, inl, inr, Bool, true, false, if◌then◌else◌, [], ◌∷◌, length, All, slice_get, Option, Some, sym, subst, ◌∙◌, ◌+◌, arith}
use Rattle.std.specs.Prelude.{is_some}
use Rattle.std.proofs.lemmas.Bool.{cases_lt}
use Rattle.std.proofs.lemmas.Option.{none-some}
use Rattle.std.proofs.lemmas.List.Elements.{All-nil, All-cons}
use Rattle.nv_values.specs.Names.{Text}
use Rattle.elf_definition.specs.Start.{Source, image_of}
use Rattle.jvm_definition.specs.Program.{Program}
use Rattle.jvm_definition.specs.Typing.{AllTyped}
use Rattle.class_definition.specs.Linking.{program_of}
use Rattle.emit_layout.specs.Numbers.{main_methods, missing_number}
use Rattle.trampoline.specs.declared.start.Start.{Start}
use Rattle.emit_types_laws.specs.Judging.{TakesGives}
use Rattle.emit_types_laws.specs.Knowing.{HelperTypes}
use Rattle.emit_types_laws.specs.Methods.{IsStart}
use Rattle.translate_classes.specs.Code.{address}
use Rattle.translate_program.specs.Places.{places_of}
use Rattle.translate_program.specs.Classes.{Placed, IsPlaced, run_of, is_last, starts_of_class}
use Rattle.translate_program.specs.DataFiles.{class_count, filled_pages, first_method, fill_of}
use Rattle.translate_program.specs.declared.built.Built.{Built}
use Rattle.translate_program.specs.Translation.{code_methods}
use Rattle.nv_translate.specs.WholeCode.{HasWholeCode}
use Rattle.nv_translate.specs.Linked.{IsLinkedBy}
use Rattle.nv_translate.proofs.TranslatedTypes.Lists.{all-counted, all-joined, against}
use Rattle.nv_translate.proofs.TranslatedTypes.Planned.{HasType}
use Rattle.nv_translate.proofs.TranslatedTypes.Lower.{TypingLaws}
use Rattle.nv_translate.proofs.TranslatedTypes.MainMethods.{helper-types, missing-takes, main-typed}
use Rattle.nv_translate.proofs.TranslatedTypes.CodeMethods.{HasWords, run-takes, class-typed}
use Rattle.nv_translate.proofs.TranslatedTypes.DataMethods.{fill-takes, words-typed, fill-typed}
use Rattle.nv_translate.proofs.TranslatedTypes.CodeWords.{words-inside}
use Rattle.nv_translate.proofs.TranslatedTypes.Numbers.{in-code, in-data}

last-starts : (program : Program) (b : Bool) (s : Start) → IsStart program s → All (IsStart program) (if b then s ∷ [] else [])
last-starts program true s is = All-cons (IsStart program) s [] is (All-nil (IsStart program))
last-starts program false s is = All-nil (IsStart program)

class-starts : (program : Program) (c : Placed) → TakesGives program (run_of c) [] false → TakesGives program missing_number [] false
    → All (IsStart program) (starts_of_class c)
class-starts program c runs misses =
    let own : Start = record { first = address c.part 0; method = run_of c } in
    let behind : Start = record { first = address c.part c.part.words; method = missing_number } in
    All-cons (IsStart program) own (if is_last c.part then behind ∷ [] else []) runs (last-starts program (is_last c.part) behind misses)

module _ {meter : Option ℕ} (laws : TypingLaws) (source : Source) (name : Text) (method_bytes : ℕ) (built : Built) (whole : HasWholeCode source)
    (l : IsLinkedBy meter source name method_bytes built) where
  abbrev program : Program
  program = program_of l.classes

  abbrev count : ℕ
  count = class_count (filled_pages source)

  helpers : HelperTypes program
  helpers = helper-types program l.main l.texts l.main_by l.main_planned

  words-at : (i : ℕ) (c : Placed) → slice_get l.code i ≡ Some c → HasWords c
  words-at i c there =
      let code = (image_of source).code in
      let ranges = l.code_is.ranges in
      let a = against (IsPlaced (is_some meter) code method_bytes) (places_of ranges) l.code i c l.code_is.placed.each there in
      words-inside code ranges i a.one (whole.whole ranges l.code_is.ranges_are) a.there method_bytes c a.related

  starts-are : All (IsStart program) l.main.starts.now
  starts-are =
      subst (All (IsStart program)) (sym l.content.starts_are)
      (all-joined (IsStart program) starts_of_class l.code
      (λ i c there. class-starts program c (run-takes program c (l.code_has i c there))
      (missing-takes program l.main l.texts l.main_by l.main_planned)))

  fills-are : All (λ (m : ℕ). TakesGives program m [] false) l.main.data.now
  fills-are =
      subst (All (λ (m : ℕ). TakesGives program m [] false)) (sym l.content.data_is)
      (all-counted (λ (m : ℕ). TakesGives program m [] false) (fill_of (code_methods l.code)) 0 count
      (λ k low high. fill-takes program (length l.code) (code_methods l.code) (filled_pages source) k (l.data_has k (omega (arith, high)))))

  in-class : (i : ℕ) (c : Placed) → slice_get l.code i ≡ Some c → (k : ℕ) → k < length c.spans + 1 → HasType program (c.first_method + k)
  in-class i c there = class-typed program c (l.code_has i c there) laws helpers (words-at i c there)

  in-main : (m : ℕ) → m < 24 → HasType program m
  in-main = main-typed program l.main l.texts l.main_by l.main_planned laws starts-are fills-are

  data-words : (k : ℕ) → k < count → HasType program (first_method (code_methods l.code) k)
  data-words k below = words-typed program (length l.code) (code_methods l.code) (filled_pages source) k (l.data_has k below) laws

  data-fill : (k : ℕ) → k < count → HasType program (fill_of (code_methods l.code) k)
  data-fill k below = fill-typed program (length l.code) (code_methods l.code) (filled_pages source) k (l.data_has k below) laws

  has-type : (m : ℕ) → HasType program m
  has-type m =
      elim (cases_lt m 24) [
        | inl main ↦ in-main m main
        | inr more ↦
            elim (cases_lt m (code_methods l.code)) [
              | inl code ↦ in-code (HasType program) 0 main_methods l.code l.code_is.placed.follow in-class m more code
              | inr further ↦
                  elim (cases_lt m (first_method (code_methods l.code) count)) [
                    | inl data_number ↦
                        in-data (HasType program) (code_methods l.code) count data-words data-fill m further data_number
                    | inr behind ↦ λ method there. absurd (none-some method (sym (l.no_more_methods m behind) ∙ there))
                  ]
            ]
      ]

  pub all-typed : AllTyped program
  all-typed m method there = has-type m method there
