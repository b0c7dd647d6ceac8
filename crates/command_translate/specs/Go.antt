-- What `go` is to do.
use Rattle.std.specs.Prelude.{◌≡◌, ◌≢◌, ℕ, List, Option, Some, None, IfErr, IfOk}
use Rattle.nv_outside.specs.Files.{AgreeWith, Files}
use Rattle.run_definition.specs.declared.outcome.Outcome.TheVariants.{Going}
use Rattle.command_words.specs.declared.named.Named.{Named}
use Rattle.command_words.specs.declared.pages.Pages.{Pages}
use Rattle.elf_definition.specs.Start.{Source, image_of}
use Rattle.jvm_definition.specs.Step.{loaded_turn}
use Rattle.class_definition.specs.declared.class.Class.{Class}
use Rattle.translate_program.specs.Files.{allow}
use Rattle.translate_program.specs.declared.named_file.NamedFile.{NamedFile}
use Rattle.nv_translate.specs.Translated.{EndsAs, Making, Translated}
use Rattle.command_deeds.specs.Checks.{Behind, Check, after_check, file_that_is_named}
use Rattle.command_deeds.specs.Ends.{Due, answers, says}
use Rattle.command_deeds.specs.declared.done.Done.TheVariants.{Trapped}
use Rattle.command_deeds.specs.Runs.{GivenFile, Plan, found_for, of_runs}
use Rattle.command_deeds.specs.World.{World}
use Rattle.command_guest.specs.Imaging.{IsImaged}
use Rattle.command_translate.specs.Metered.{IsDueOfMetered}
use Rattle.command_translate.specs.Stores.{classes_for, program_for, after_stores}

-- how many instructions the program's steps allow its classes
abbrev pub allowed : Plan → Source → ℕ
allowed plan source = allow (image_of source).mapped plan.session.steps

-- what is due of the run of the classes, for so many
abbrev pub due_of_classes : Plan → Source → List GivenFile → List Class → Option (List ℕ)
    → List (List ℕ) → Due
due_of_classes plan source given classes input pieces =
    of_runs loaded_turn (allowed plan source)
    (classes_for plan source given classes input pieces) plan.session.keep.names

-- What is due of a program that has an image, with the files of --with.
pub record IsDueOfTranslated (IsMade : Making) (plan : Plan) (method_bytes : ℕ) (source : Source)
    (given : List GivenFile) (input : Option (List ℕ)) (due : Due) : Type 0 where
  -- a translation: its files spell classes that are accepted, and that run as the program
  pub files : List NamedFile
  pub translated : Translated source plan.name files
  pub made : IsMade None source plan.name method_bytes files
  -- pieces of input, of which one comes before each call where it does not tell what it has left
  pub pieces : List (List ℕ)
  -- its files are stored, and then its classes run
  pub is : due ≡ after_stores files
      (due_of_classes plan source given translated.classes input pieces)
  -- Where the program itself ends within its steps, as `interp` makes it, they end as it does:
  -- after the same calls, in the same way, and with the same files, input and output.
  pub as_program : (program_for plan source given input pieces plan.session.steps).outcome ≢ Going
      → EndsAs (program_for plan source given input pieces plan.session.steps)
      (classes_for plan source given translated.classes input pieces (allowed plan source))
  -- And where they end, the program ends as they do within as many steps as they may make: they
  -- exit and fault only where it does.
  pub as_classes : (classes_for plan source given translated.classes input pieces
      (allowed plan source)).outcome ≢ Going
      → EndsAs (classes_for plan source given translated.classes input pieces
      (allowed plan source)) (program_for plan source given input pieces (allowed plan source))
  -- they never end in a trap
  pub no_trap : (k : ℕ) → due.answer ≢ Some (says (Trapped k))

-- the same, with a meter or without one
abbrev pub IsDueOfTranslatedBy : Making → Option ℕ → Plan → ℕ → Source → List GivenFile
    → Option (List ℕ) → Due → Type 0
IsDueOfTranslatedBy IsMade None plan method_bytes source given input due =
    IsDueOfTranslated IsMade plan method_bytes source given input due
IsDueOfTranslatedBy IsMade (Some turns) plan method_bytes source given input due =
    IsDueOfMetered IsMade plan method_bytes turns source given input due

-- What `go` is to do with the program of a file that the words name.
pub record IsDueOfGo (IsMade : Making) (input : Named) (pages : Pages) (method_bytes : ℕ)
    (meter : Option ℕ) (plan : Plan) (w : World) (due : Due) : Type 0 where
  -- the files as the program is loaded: those of the shelf, where it tells them
  pub files : Files
  pub agree : AgreeWith w.shelf.told files
  -- and as the files of --with are
  pub with_files : Files
  pub with_agree : AgreeWith w.shelf.told with_files
  -- the program's file is there
  pub file : Check (List ℕ)
  pub file_is : file ≡ file_that_is_named files input
  -- it is a program, and has an image
  pub source : Check Source
  pub source_is : Behind file (IsImaged pages) source
  -- the arguments fit, and the files of --with are there and fit
  pub found : Check (List GivenFile)
  pub found_is : found ≡ after_check source (λ image. found_for plan with_files)
  -- the answer where one of these refused
  pub refused : IfErr found (λ answer. due ≡ answers answer)
  -- where all passed, a translation of the program and the run of its classes
  pub done : IfOk source (λ image. IfOk found (λ given.
      IsDueOfTranslatedBy IsMade meter plan method_bytes image given w.input.told due))
