-- What `interp` is to do.
use Rattle.std.specs.Prelude.{◌≡◌, List, ℕ, IfErr, IfOk}
use Rattle.nv_outside.specs.Files.{AgreeWith, Files}
use Rattle.command_words.specs.declared.named.Named.{Named}
use Rattle.command_words.specs.declared.pages.Pages.{Pages}
use Rattle.mips_definition.specs.Step.{turn}
use Rattle.elf_definition.specs.Start.{Source, image_of}
use Rattle.elf_definition.specs.Loading.{start_of}
use Rattle.command_deeds.specs.Checks.{Behind, Check, after_check, file_that_is_named}
use Rattle.command_deeds.specs.Ends.{Due, answers}
use Rattle.command_deeds.specs.Runs.{GivenFile, Plan, found_for, session_run}
use Rattle.command_deeds.specs.World.{World}
use Rattle.command_guest.specs.Imaging.{IsImaged}

-- What `interp` is to do with the program of a file that the words name.
pub record IsDueOfInterp (input : Named) (pages : Pages) (plan : Plan) (w : World) (due : Due)
    : Type 0 where
  -- the files as the program is loaded: those of the shelf, where it tells them
  pub files : Files
  pub agree : AgreeWith w.shelf.told files
  -- and as the files of --with are
  pub with_files : Files
  pub with_agree : AgreeWith w.shelf.told with_files
  -- the program's file is there
  pub file : Check (List ℕ)
  pub file_is : file ≡ file_that_is_named files input
  -- it is a program, and has an image
  pub source : Check Source
  pub source_is : Behind file (IsImaged pages) source
  -- the arguments fit, and the files of --with are there and fit
  pub found : Check (List GivenFile)
  pub found_is : found ≡ after_check source (λ image. found_for plan with_files)
  -- pieces of input, of which one comes before each call where it does not tell what it has left
  pub pieces : List (List ℕ)
  -- the answer where one of these refused
  pub refused : IfErr found (λ answer. due ≡ answers answer)
  -- where all passed, the run of the image from its start, for the steps of the session
  pub done : IfOk source (λ image. IfOk found (λ given.
      due ≡ session_run turn (start_of (image_of image)) plan given w.input.told pieces))
