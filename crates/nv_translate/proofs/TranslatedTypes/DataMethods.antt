-- The methods of a class of data are typed.
use Rattle.std.proofs.Common.{◌≡◌, ℕ, ◌+◌, false, List, [], ◌∷◌, refl, subst, arith}
use Rattle.elf_image_parts.specs.Pages.{Page}
use Rattle.jvm_definition.specs.declared.kind.Kind.TheVariants.{Ints, Text}
use Rattle.jvm_definition.specs.Program.{Program}
use Rattle.class_definition.specs.NameGrammar.{after_field}
use Rattle.class_definition.specs.Linking.{parameters_of, parameters_from}
use Rattle.emit_types_laws.specs.Judging.{TakesGives}
use Rattle.emit_types_laws.specs.Methods.{owes_nothing, owes_words}
use Rattle.translate_classes.specs.Making.{Plan}
use Rattle.translate_classes.specs.DataNaming.{words_descriptor}
use Rattle.translate_classes.specs.Data.{words_plan, fill_plan}
use Rattle.translate_program.specs.DataFiles.{class_number, first_method, fill_of}
use Rattle.nv_translate.specs.Linked.{IsPlanned, HasDataClass}
use Rattle.nv_translate.proofs.TranslatedTypes.Planned.{HasType, plan-takes, plan-typed, plan-quiet, quiet-typed}
use Rattle.nv_translate.proofs.TranslatedTypes.Lower.{TypingLaws}

array-taken : parameters_of words_descriptor ≡ Ints ∷ Text ∷ []
unfolding parameters_from after_field
array-taken = refl

module _ (program : Program) (code_classes methods : ℕ) (pages : List Page) (k : ℕ) (has : HasDataClass program code_classes methods pages k) where
  abbrev own_fill : Plan
  own_fill = fill_plan has.texts (class_number code_classes k) (first_method methods k) has.by

  words-as : IsPlanned program (first_method methods k) (words_plan has.by)
  words-as =
      let e : first_method methods k + 0 ≡ first_method methods k = omega arith in
      subst (λ n. IsPlanned program n (words_plan has.by)) e (has.planned 0 (words_plan has.by) refl)

  fill-as : IsPlanned program (fill_of methods k) own_fill
  fill-as = has.planned 1 own_fill refl

  pub fill-takes : TakesGives program (fill_of methods k) [] false
  fill-takes = plan-quiet program (fill_of methods k) own_fill fill-as refl

  pub words-typed : TypingLaws → HasType program (first_method methods k)
  words-typed laws =
      plan-typed laws.bodies program (first_method methods k) (words_plan has.by) owes_words (Ints ∷ Text ∷ []) words-as array-taken (omega arith)
      (laws.words program)

  pub fill-typed : TypingLaws → HasType program (fill_of methods k)
  fill-typed laws =
      quiet-typed laws.bodies program (fill_of methods k) own_fill owes_nothing fill-as refl
      (laws.fill program has.texts (class_number code_classes k) (first_method methods k)
      (plan-takes program (first_method methods k) (words_plan has.by) (Ints ∷ Text ∷ []) false words-as array-taken refl))
