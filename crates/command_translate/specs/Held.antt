-- What is due of a translation over a system as it is held, before its classes run.
use Rattle.std.specs.Prelude.{◌≡◌, ℕ, List, Option, Some, None}
use Rattle.nv_values.specs.Names.{Text}
use Rattle.elf_definition.specs.Start.{Source, image_of}
use Rattle.unix_calls.specs.Held.{Held}
use Rattle.jvm_definition.specs.Step.{loaded_program, loaded_turn}
use Rattle.class_definition.specs.declared.class.Class.{Class}
use Rattle.class_definition.specs.Linking.{program_of}
use Rattle.translate_program.specs.Files.{need}
use Rattle.translate_program.specs.declared.named_file.NamedFile.{NamedFile}
use Rattle.nv_translate.specs.Made.{AreMade}
use Rattle.nv_translate.specs.Metered.{TranslatedMetered}
use Rattle.nv_translate.specs.Translated.{Translated}
use Rattle.command_deeds.specs.Ends.{Due}
use Rattle.command_deeds.specs.Runs.{IsDueOfHeld, Plan}
use Rattle.command_translate.specs.Go.{allowed}
use Rattle.command_translate.specs.Metered.{allowed_by_meter, told_by_meter}
use Rattle.command_translate.specs.Stores.{IsDueBehind}

-- files of a translation with a meter or without one
abbrev pub AreTranslatedBy : Option ℕ → Source → Text → List NamedFile → Type 0
AreTranslatedBy None source name files = Translated source name files
AreTranslatedBy (Some turns) source name files = TranslatedMetered source name turns files

-- the run of classes for so many instructions in a region of so many words, and the files that are
-- kept
abbrev pub IsDueOfHeldRun : ℕ → ℕ → Held → List Text → List Class → Option (List ℕ) → Due → Type 0
IsDueOfHeldRun bound words unix keep classes input due =
    IsDueOfHeld bound loaded_turn (loaded_program (program_of classes) words) unix keep input due

-- a translation, its files, and the run of its classes
abbrev pub IsDueOfHeldGo : Plan → ℕ → Source → Held → Option (List ℕ) → Due → Type 0
IsDueOfHeldGo plan method_bytes source unix input due =
    (files : List NamedFile) × (t : Translated source plan.name files)
    × AreMade None source plan.name method_bytes files
    × IsDueBehind files
    (IsDueOfHeldRun (allowed plan source) (need (image_of source).mapped) unix
    plan.session.keep.names t.classes input) due

-- the same of a translation with a meter
abbrev pub IsDueOfHeldMetered : Plan → ℕ → ℕ → Source → Held → Option (List ℕ) → Due → Type 0
IsDueOfHeldMetered plan method_bytes turns source unix input due =
    (files : List NamedFile) × (t : TranslatedMetered source plan.name turns files)
    × AreMade (Some turns) source plan.name method_bytes files
    × (later : Due)
    × IsDueBehind files
    (IsDueOfHeldRun (allowed_by_meter turns source) (need (image_of source).mapped) unix
    plan.session.keep.names t.runs.classes input) later
    × (due ≡ told_by_meter later)
