-- What follows of a call of the program that stores classes, for later calls that name them.
use Rattle.std.specs.Prelude.{◌≡◌, ◌⊎◌, ℕ, List, Option, Some, Ok}
use Rattle.nv_outside.specs.Files.{Files}
use Rattle.nv_values.specs.Names.{Text}
use Rattle.elf_definition.specs.Start.{Source, image_of}
use Rattle.class_definition.specs.declared.class.Class.{Class}
use Rattle.translate_program.specs.Files.{need}
use Rattle.translate_program.specs.declared.named_file.NamedFile.{NamedFile}
use Rattle.nv_translate.specs.Made.{AreMade}
use Rattle.nv_translate.specs.Translated.{AreStored}
use Rattle.command_words.specs.Meaning.{command_of}
use Rattle.command_words.specs.declared.command.Command.TheVariants as command
use Rattle.command_words.specs.declared.named.Named.{Named}
use Rattle.command_words.specs.declared.named_class.NamedClass.{NamedClass}
use Rattle.command_words.specs.declared.pages.Pages.{Pages}
use Rattle.command_words.specs.declared.session.Session.{Session}
use Rattle.command_deeds.specs.Deeds.{Deed}
use Rattle.command_deeds.specs.World.{Takes, World}
use Rattle.command_deeds.specs.declared.done.Done.{Done}
use Rattle.command_deeds.specs.declared.done.Done.TheVariants as done
use Rattle.command_guest.specs.Classes.{counts_line, set_named}
use Rattle.command_guest.specs.Imaging.{source_of}
use Rattle.command_frames_laws.specs.Counted.{StandIn}
use Rattle.command_frames_laws.specs.Stored.{Leave}
use Rattle.command_frames_laws.specs.StoredSets.{HoldBytes}
use Rattle.command_translate.specs.Stores.{files_stored, translation_line}
use Rattle.command_translate_laws.specs.ByName.{AnswersByName, RunsByName, own_steps}
use Rattle.nested_cli.specs.Commands.{Does, plan}
use Rattle.nested_cli.specs.Laws.{NoCountRose}

-- A call stored these files one after the other, and its shelf tells those that are there then.
pub record Stored (before : Files) (deeds : List Deed) (v : World) : Type 0 where
  pub left : Files
  pub left_told : v.shelf.told ≡ Some left
  pub leaves : Leave before deeds left

-- ---- `frames`, and then `check`

-- `check` of a class counts these classes, and is answered that all is good, if no call of the outside fails and memory does
-- not run out.
abbrev pub ChecksSo : NamedClass → List Class → (Files → Type 0) → Type 0
ChecksSo class classes Stand =
    (words : List Text) (moment : ℕ) (w v : World) (said : Done) (files : Files)
    → command_of words ≡ Ok (command.Check class) → w.shelf.told ≡ Some files → Stand files
    → Does AreMade words moment w v said → NoCountRose w v
    → (said ≡ done.NoMemory)
    ⊎ ((said ≡ done.Good) × Takes w.out v.out (counts_line classes))

-- What is so once `frames` of a class was answered that all is good, over these files.
pub record FramedByName (class : NamedClass) (files : Files) (v : World) : Type 0 where
  -- the set of the class, as it was loaded
  pub classes : List Class
  pub loaded : set_named files class ≡ Ok classes
  -- the files of its classes with tables of frames are stored
  pub deeds : List Deed
  pub stored : Stored files deeds v
  -- over these files, and over later ones that have what was stored and no new class, `check` counts as many classes and methods
  pub checked : ChecksSo class classes (StandIn files deeds)

-- Where the files are lists of bytes, what `frames` stores passes `check`.
abbrev pub FramesAreChecked : Type 0
FramesAreChecked = (words : List Text) (moment : ℕ) (w v : World) (class : NamedClass)
    (files : Files) → command_of words ≡ Ok (command.Frames class) → w.shelf.told ≡ Some files
    → HoldBytes files → Does AreMade words moment w v done.Good → FramedByName class files v

-- ---- `translate`, and then `run`

-- The words mean `translate`, over a shelf that tells its files, in which the program's is.
pub record Translates (words : List Text) (w : World) : Type 0 where
  pub input : Named
  pub name : Text
  pub pages : Pages
  pub method_bytes : ℕ
  pub meter : Option ℕ
  pub means : command_of words ≡ Ok (command.Translate input name pages method_bytes meter)
  pub files : Files
  pub files_told : w.shelf.told ≡ Some files
  pub file : List ℕ
  pub there : files input.text ≡ Some file

-- `run` by this name, where these files stand, is answered as the program itself ends, if no call of
-- the outside fails and memory does not run out.
abbrev pub RunsAsProgram : Option ℕ → Source → Text → List NamedFile → Type 0
RunsAsProgram meter source name stored =
    (words : List Text) (moment : ℕ) (w v : World) (said : Done) (class : NamedClass) (room : ℕ)
    (session : Session) → command_of words ≡ Ok (command.Run class room session)
    → (r : RunsByName source name stored class room (plan class.name session moment) w)
    → Does AreMade words moment w v said → NoCountRose w v
    → (said ≡ done.NoMemory)
    ⊎ AnswersByName meter (own_steps r) (image_of source).mapped session.steps said

-- What is so once `translate` was answered that all is good.
pub record TranslatedByName {words : List Text} {w : World} (t : Translates words w) (v : World)
    : Type 0 where
  -- the files of a translation are stored, stand so then, and the words of the region that they need
  -- are told
  pub files : List NamedFile
  pub stored : Stored t.files (files_stored files) v
  pub stand : AreStored stored.left files
  pub told : Takes w.out v.out
      (translation_line files (need (image_of (source_of t.pages t.file)).mapped))
  -- and `run` by the name answers as the program
  pub runs : RunsAsProgram t.meter (source_of t.pages t.file) t.name files

-- What `translate` stores runs by its name as the program does.
abbrev pub TranslationsRunByName : Type 0
TranslationsRunByName = (words : List Text) (moment : ℕ) (w v : World) (t : Translates words w)
    → Does AreMade words moment w v done.Good → TranslatedByName t v
