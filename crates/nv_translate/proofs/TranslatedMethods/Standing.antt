-- The methods of a linked translation stand in its program.
use Rattle.std.proofs.Common.{◌≡◌, ℕ, ◌%◌, ◌≤◌, List, length, Option, Some, ap, sym, subst, ◌∙◌, arith}
use Rattle.std.specs.Prelude.{is_some}
use Rattle.std.specs.List.{AllByRecursion}
use Rattle.std.proofs.lemmas.List.Elements.{recursion_from_All}
use Rattle.std.proofs.lemmas.Slice.Zip.{AllZip-long}
use Rattle.nv_values.specs.Names.{Text}
use Rattle.elf_definition.specs.declared.range.Range.{Range}
use Rattle.elf_definition.specs.Start.{Source, image_of}
use Rattle.elf_image.specs.Whole.{IsWholeRange}
use Rattle.jvm_definition.specs.Program.{Program}
use Rattle.class_definition.specs.Linking.{program_of}
use Rattle.emit_steps.specs.Placing.{LiesAt}
use Rattle.emit_layout.specs.Numbers.{main_methods, choose_number, missing_number}
use Rattle.trampoline.specs.Choosers.{main_chooser, missing_method}
use Rattle.emit_program_laws.specs.SpanCodeLaws.Helpers.{HasHelpers}
use Rattle.emit_program_laws.specs.TrampolineLaws.Classes.{CodeClass, starts_of}
use Rattle.emit_program_laws.specs.TrampolineLaws.Programs.{IsInClass, IsTranslated}
use Rattle.translate_program.specs.Places.{Place, places_of}
use Rattle.translate_program.specs.Classes.{IsPlaced}
use Rattle.translate_program.specs.declared.built.Built.{Built}
use Rattle.nv_translate.specs.Linked.{IsLinkedBy}
use Rattle.nv_translate.specs.AcceptedCode.{HasAcceptedCode}
use Rattle.nv_translate.specs.Standing.{Stands}
use Rattle.nv_translate.proofs.TranslatedMethods.Main.{has-helpers, choose-lies, missing-is, missing-lies}
use Rattle.nv_translate.proofs.TranslatedMethods.Places.{IsGood, good-places, places-rise, places-few}
use Rattle.nv_translate.proofs.TranslatedMethods.Words.{words-at}
use Rattle.nv_translate.proofs.TranslatedMethods.Areas.{in-area}
use Rattle.nv_translate.proofs.TranslatedMethods.Together.{classes_of, are-classes, have-classes, are-metered, have-ranges, as-many, numbered, ordered, starts-are, has-words, few-starts}

module _ {meter : Option ℕ} (source : Source) (name : Text) (method_bytes : ℕ) (built : Built) (guest : HasAcceptedCode source) (large : 4096 ≤ method_bytes)
    (l : IsLinkedBy meter source name method_bytes built) where
  abbrev program : Program
  program = program_of l.classes

  abbrev code : ℕ → Option ℕ
  code = (image_of source).code

  abbrev ranges : List Range
  ranges = l.code_is.ranges

  abbrev places : List Place
  places = places_of ranges

  abbrev classes : List CodeClass
  classes = classes_of (is_some meter) code method_bytes places l.code l.code_is.placed.each

  filled : AllByRecursion (λ (r : Range). 1 ≤ r.words) ranges
  filled = recursion_from_All (λ (r : Range). 1 ≤ r.words) ranges l.code_is.ranges_are.filled

  aligned : AllByRecursion (λ (r : Range). r.first % 4 ≡ 0) ranges
  aligned = recursion_from_All (λ (r : Range). r.first % 4 ≡ 0) ranges l.code_is.ranges_are.aligned

  good : AllByRecursion (IsGood code) places
  good =
      good-places code ranges
      (recursion_from_All (IsWholeRange code) ranges (guest.whole.whole ranges l.code_is.ranges_are))

  helpers : HasHelpers program (image_of source).order
  helpers =
      subst (HasHelpers program) (ap (λ b. b.order) l.content.beginning_is)
      (has-helpers program l.main l.texts l.main_by l.main_planned)

  chooses : LiesAt program choose_number 0 (main_chooser (starts_of missing_number classes) missing_number)
  chooses =
      subst (λ starts. LiesAt program choose_number 0 (main_chooser starts missing_number))
      (l.content.starts_are ∙ starts-are (is_some meter) code method_bytes places l.code l.code_is.placed.each)
      (choose-lies program l.main l.texts l.main_by l.main_planned)

  only : (a word : ℕ) → code a ≡ Some word → IsInClass classes a
  only a word there =
      let in_code = in-area source a word there in
      has-words (is_some meter) code method_bytes places l.code l.code_is.placed.each a
      (words-at ranges a aligned in_code.0 (sym (l.code_is.ranges_are.same a) ∙ in_code.1))

  few : length (starts_of missing_number classes) ≤ 2048
  few =
      omega (
        arith,
        few-starts missing_number classes,
        as-many (is_some meter) code method_bytes places l.code l.code_is.placed.each,
        places-few ranges,
        guest.whole.words ranges l.code_is.ranges_are,
        guest.few ranges l.code_is.ranges_are,
      )

  translated : IsTranslated (is_some meter) program (image_of source).order choose_number missing_number classes code
  translated = record {
    helpers = helpers;
    choose_lies = chooses;
    missing_is = missing-is program l.main l.texts l.main_by l.main_planned;
    missing_lies = subst (λ turns. LiesAt program missing_number 0 (missing_method (is_some turns))) l.content.meter_is
        (missing-lies program l.main l.texts l.main_by l.main_planned);
    low = main_methods;
    helpers_low = omega arith;
    choose_above = omega arith;
    choose_low = omega arith;
    missing_above = omega arith;
    missing_low = omega arith;
    has = have-classes (is_some meter) code method_bytes program large places l.code l.code_is.placed.each good l.code_has;
    metered_are = are-metered (is_some meter) code method_bytes places l.code l.code_is.placed.each;
    some =
        omega (
          arith,
          as-many (is_some meter) code method_bytes places l.code l.code_is.placed.each,
          AllZip-long (IsPlaced (is_some meter) code method_bytes) places l.code l.code_is.placed.each,
          l.some,
        );
    few = few;
    numbered = numbered (is_some meter) code method_bytes places l.code l.code_is.placed.each 0 main_methods l.code_is.placed.follow;
    ordered = ordered (is_some meter) code method_bytes places l.code l.code_is.placed.each good (places-rise ranges filled l.code_is.ranges_are.apart);
    code_is = record { ranges = have-ranges (is_some meter) code method_bytes places l.code l.code_is.placed.each good; only = only };
  }

  pub stands : Stands (is_some meter) source l.code program
  stands = record {
    classes = classes;
    classes_are = are-classes (is_some meter) code method_bytes places l.code l.code_is.placed.each;
    translated = translated;
  }
