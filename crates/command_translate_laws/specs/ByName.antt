-- What `translate` and `run` are to do with a translation, one behind the other.
use Rattle.std.specs.Prelude.{◌≡◌, ◌≢◌, ◌⊎◌, ◌<◌, ◌≤◌, ℕ, List, [], Option, Some, None, Ok}
use Rattle.nv_outside.specs.Files.{Files}
use Rattle.run_definition.specs.Run.{Run}
use Rattle.run_definition.specs.Turn.{outcome_of}
use Rattle.run_definition.specs.declared.outcome.Outcome.TheVariants.{Going}
use Rattle.nv_values.specs.Names.{Text}
use Rattle.mips_definition.specs.State.{State}
use Rattle.elf_definition.specs.Start.{Source, image_of}
use Rattle.unix_definition.specs.System.{System}
use Rattle.emit_metered_laws.specs.Metering.{spent}
use Rattle.translate_program.specs.Files.{allow, meter_allow, need}
use Rattle.translate_program.specs.declared.named_file.NamedFile.{NamedFile}
use Rattle.nv_translate.specs.Translated.{AreStored}
use Rattle.command_words.specs.declared.named_class.NamedClass.{NamedClass}
use Rattle.command_deeds.specs.Ends.{CommandAnswer, Due}
use Rattle.command_deeds.specs.Runs.{GivenFile, Plan, answer_of, found_for}
use Rattle.command_deeds.specs.World.{World}
use Rattle.command_deeds.specs.declared.done.Done.{Done}
use Rattle.command_deeds.specs.declared.done.Done.TheVariants as done
use Rattle.command_guest.specs.Classes.{IsDueOfRun}
use Rattle.command_frames_laws.specs.Stored.{Leave}
use Rattle.command_translate.specs.Stores.{files_counted, files_stored, program_for}

-- ---- `run` by the name

-- What `run` of a class needs, so that it comes to run a translation by its name: its files stand as they were stored, among
-- whatever others, there is room, the shelf tells its files and input what it has, and arguments and files fit.
pub record RunsByName (source : Source) (name : Text) (stored : List NamedFile) (class : NamedClass)
    (room : ℕ) (p : Plan) (w : World) : Type 0 where
  pub named : class.name ≡ name
  pub enough : need (image_of source).mapped ≤ room
  -- the files of the shelf, and what input has
  pub files : Files
  pub files_told : w.shelf.told ≡ Some files
  pub stand : AreStored files stored
  pub bytes : List ℕ
  pub bytes_told : w.input.told ≡ Some bytes
  -- the arguments fit, and the files of --with are there and fit
  pub given : List GivenFile
  pub fit : found_for p files ≡ Ok given

-- the program's own run on the reference machine over the same, for so many steps
abbrev pub own_steps : {source : Source} {name : Text} {stored : List NamedFile}
    {class : NamedClass} {room : ℕ} {p : Plan} {w : World}
    → RunsByName source name stored class room p w → ℕ → Run State System
own_steps {source = source} {p = p} r steps = program_for p source r.given (Some r.bytes) [] steps

-- ---- its answer

-- An answer of classes that may make so many instructions is how a program ends by its own run.
pub record AnswersWithin (run : ℕ → Run State System) (mapped most : ℕ) (said : Done) : Type 0
  where
    -- where that ends within steps for which the classes have instructions enough, it is how it ends
    pub ends : (steps : ℕ) → allow mapped steps ≤ most → (run steps).outcome ≢ Going
        → answer_of (run steps).outcome ≡ Some said
    -- it is nothing else, but that the instructions are spent
    pub only : (said ≡ done.Spent) ⊎ (answer_of (run most).outcome ≡ Some said)

-- An answer of classes with a meter is how the program's own run of as many steps ends, or where it
-- goes on, the fault of a spent meter, at the instruction that it would make next.
pub record AnswersByMeter (run : Run State System) (said : Done) : Type 0 where
  pub over : run.outcome ≢ Going → answer_of run.outcome ≡ Some said
  pub goes_on : run.outcome ≡ Going → answer_of (outcome_of (spent run.last)) ≡ Some said

-- With a meter it is so, or the instructions are spent, which are fewer than the meter's steps allow.
abbrev pub AnswersByName : Option ℕ → (ℕ → Run State System) → ℕ → ℕ → Done → Type 0
AnswersByName None run mapped most said = AnswersWithin run mapped most said
AnswersByName (Some turns) run mapped most said =
    AnswersByMeter (run turns) said ⊎ ((said ≡ done.Spent) × (most < meter_allow mapped turns))

-- what `run` is to do by this name is answered as the program itself ends
abbrev pub RunsSo : Option ℕ → Source → Text → List NamedFile → Type 0
RunsSo meter source name files =
    (class : NamedClass) (room : ℕ) (p : Plan) (w : World) (due : Due) (answer : CommandAnswer)
    (r : RunsByName source name files class room p w)
    → IsDueOfRun class room p w due → due.answer ≡ Some answer
    → AnswersByName meter (own_steps r) (image_of source).mapped p.session.steps answer.done

-- ---- `translate`

-- A translation of a program is stored under a name, and counted.
pub record StoresTranslation (meter : Option ℕ) (source : Source) (name : Text) (due : Due) : Type 0
  where
    -- its files are stored and counted
    pub files : List NamedFile
    pub is : due ≡ files_counted files (need (image_of source).mapped)
    -- once they are stored one after the other, all of them stand so
    pub stand : (before left : Files) → Leave before (files_stored files) left
        → AreStored left files
    -- where they stand, `run` of the name answers as the program
    pub runs : RunsSo meter source name files
