-- What `translate` is to do.
use Rattle.std.specs.Prelude.{◌≡◌, ℕ, List, Option, Some, None, IfErr, IfOk}
use Rattle.nv_outside.specs.Files.{AgreeWith, Files}
use Rattle.nv_values.specs.Names.{Text}
use Rattle.command_words.specs.declared.named.Named.{Named}
use Rattle.command_words.specs.declared.pages.Pages.{Pages}
use Rattle.elf_definition.specs.Start.{Source, image_of}
use Rattle.translate_program.specs.Files.{need}
use Rattle.translate_program.specs.declared.named_file.NamedFile.{NamedFile}
use Rattle.nv_translate.specs.Translated.{Making, Translated}
use Rattle.command_deeds.specs.Checks.{Behind, Check, file_that_is_named}
use Rattle.command_deeds.specs.Ends.{Due, answers}
use Rattle.command_deeds.specs.World.{World}
use Rattle.command_guest.specs.Imaging.{IsImaged}
use Rattle.command_translate.specs.Metered.{IsDueOfMeteredImage}
use Rattle.command_translate.specs.Stores.{files_counted}

-- What is due of a program that has an image: every one is translated.
pub record IsDueOfImage (IsMade : Making) (source : Source) (name : Text) (method_bytes : ℕ)
    (due : Due) : Type 0 where
  -- a translation: its files spell classes that are accepted, and that run as the program
  pub files : List NamedFile
  pub translated : Translated source name files
  pub made : IsMade None source name method_bytes files
  -- its files are stored, and counted
  pub is : due ≡ files_counted files (need (image_of source).mapped)

-- the same, with a meter or without one
abbrev pub IsDueOfImageBy : Making → Option ℕ → Source → Text → ℕ → Due → Type 0
IsDueOfImageBy IsMade None source name method_bytes due =
    IsDueOfImage IsMade source name method_bytes due
IsDueOfImageBy IsMade (Some turns) source name method_bytes due =
    IsDueOfMeteredImage IsMade source name method_bytes turns due

-- What `translate` is to do with the program of a file that the words name.
pub record IsDueOfTranslate (IsMade : Making) (input : Named) (name : Text) (pages : Pages)
    (method_bytes : ℕ) (meter : Option ℕ) (w : World) (due : Due) : Type 0 where
  -- the files: those of the shelf, where it tells them
  pub files : Files
  pub agree : AgreeWith w.shelf.told files
  -- the program's file is there
  pub file : Check (List ℕ)
  pub file_is : file ≡ file_that_is_named files input
  -- it is a program, and has an image
  pub source : Check Source
  pub source_is : Behind file (IsImaged pages) source
  -- the answer where one of these refused
  pub refused : IfErr source (λ answer. due ≡ answers answer)
  -- where all passed, a translation of the program
  pub done : IfOk source (λ image. IsDueOfImageBy IsMade meter image name method_bytes due)
