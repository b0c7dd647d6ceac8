-- What follows of every call of the program, for those who rely on it.
use Rattle.std.specs.Prelude.{◌≡◌, ◌≢◌, ◌⊎◌, ◌++◌, ◌∷◌, ◌<◌, ◌-◌, ◌^◌, ℕ, Bool, true, false, List, [], Option, Some, None, Ok}
use Rattle.nv_outside.specs.Files.{Files}
use Rattle.run_definition.specs.Run.{Run}
use Rattle.run_definition.specs.declared.outcome.Outcome.TheVariants.{Going}
use Rattle.nv_values.specs.Names.{Text}
use Rattle.command_words.specs.Meaning.{command_of}
use Rattle.command_words.specs.declared.command.Command.{Command}
use Rattle.command_words.specs.declared.command.Command.TheVariants as command
use Rattle.command_words.specs.declared.named.Named.{Named}
use Rattle.command_words.specs.declared.pages.Pages.{Pages}
use Rattle.command_words.specs.declared.session.Session.{Session}
use Rattle.mips_definition.specs.State.{State}
use Rattle.elf_definition.specs.Area.{area}
use Rattle.elf_definition.specs.Fault.{elf_fault, IsRunsOf}
use Rattle.elf_definition.specs.declared.range.Range.{Range}
use Rattle.elf_definition.specs.ImageFault.{image_fault}
use Rattle.elf_definition.specs.Start.{Source}
use Rattle.unix_definition.specs.System.{System}
use Rattle.unix_calls.specs.Stages.{LosesRead, Stage}
use Rattle.command_deeds.specs.Deeds.{Deed, plays}
use Rattle.command_deeds.specs.Ends.{Due}
use Rattle.command_deeds.specs.Runs.{GivenFile, Plan, answer_of, found_for}
use Rattle.command_deeds.specs.World.{SameShelf, Seen, Takes, World}
use Rattle.command_deeds.specs.declared.done.Done.{Done}
use Rattle.command_deeds.specs.declared.done.Done.TheVariants as done
use Rattle.command_guest.specs.Imaging.{source_of}
use Rattle.command_translate.specs.Go.{allowed}
use Rattle.command_translate.specs.Stores.{program_for}
use Rattle.nv_translate.specs.Made.{AreMade}
use Rattle.nested_cli.specs.Commands.{Does, IsDueOf, plan}

-- ---- refusals

-- An answer that refuses: the words are no command line, a file is not there or fails a check, or
-- arguments or files do not fit.
abbrev pub is_refusal : Done → Bool
is_refusal done.Good = false
is_refusal (done.Exited status) = false
is_refusal (done.Faulted f) = false
is_refusal (done.Usage kind) = true
is_refusal (done.NoInput word) = true
is_refusal (done.ElfRefused f) = true
is_refusal (done.ImageRefused f) = true
is_refusal (done.ArgsTooLong n) = true
is_refusal (done.FilesTooLarge n) = true
is_refusal (done.AsmRefused f) = true
is_refusal (done.ClassRefused class kind at) = true
is_refusal (done.LinkRefused f) = true
is_refusal (done.VerifyRefused f) = true
is_refusal (done.ObjRefused f) = true
is_refusal (done.FrameRefused f) = true
is_refusal (done.FramesTooLarge class bytes) = true
is_refusal (done.Piped stages) = false
is_refusal (done.Trapped k) = false
is_refusal done.Spent = false
is_refusal done.ReadFault = false
is_refusal done.WriteFault = false
is_refusal done.ShelfFault = false
is_refusal done.NoMemory = false

-- What refuses does so before anything is stored, read or written, but for the answer's line.
abbrev pub RefusalsLeaveAll : Type 0
RefusalsLeaveAll = (words : List Text) (moment : ℕ) (w v : World) (said : Done)
    → Does AreMade words moment w v said → is_refusal said ≡ true
    → SameShelf w.shelf v.shelf × (v.input ≡ w.input) × (v.out ≡ w.out)

-- ---- `go` is complete

-- What `go` needs, so that it comes to run: its words mean it, the shelf tells its files and input
-- what it has, the program's file passes its checks, and arguments and files fit.
pub record GoesAhead (words : List Text) (moment : ℕ) (w : World) : Type 0 where
  -- the command
  pub input : Named
  pub name : Text
  pub pages : Pages
  pub method_bytes : ℕ
  pub meter : Option ℕ
  pub session : Session
  pub means : command_of words ≡ Ok (command.Go input name pages method_bytes meter session)
  -- the files of the shelf, and what input has
  pub files : Files
  pub files_told : w.shelf.told ≡ Some files
  pub bytes : List ℕ
  pub bytes_told : w.input.told ≡ Some bytes
  -- the program's file is there, is a program, and has an image
  pub file : List ℕ
  pub there : files input.text ≡ Some file
  pub is_program : elf_fault file ≡ None
  pub has_image : (runs : List Range) → IsRunsOf (area file) runs
      → image_fault file runs pages.heap pages.stack ≡ None
  -- the arguments fit, and the files of --with are there and fit
  pub given : List GivenFile
  pub fit : found_for (plan name session moment) files ≡ Ok given

-- the program's own run on the reference machine, for so many steps
abbrev pub own_run : {words : List Text} {moment : ℕ} {w : World} → GoesAhead words moment w → ℕ
    → Run State System
own_run {moment = moment} g steps =
    program_for (plan g.name g.session moment) (source_of g.pages g.file) g.given (Some g.bytes) []
    steps

-- how many instructions its classes may make
abbrev pub own_bound : {words : List Text} {moment : ℕ} {w : World} → GoesAhead words moment w → ℕ
own_bound {moment = moment} g = allowed (plan g.name g.session moment) (source_of g.pages g.file)

-- An answer is how a program ends by its own run, for so many steps and for more.
pub record AnswersAs (run : ℕ → Run State System) (steps more : ℕ) (said : Done) : Type 0 where
  -- where it ends within its steps, it is how it ends
  pub ends : (run steps).outcome ≢ Going → answer_of (run steps).outcome ≡ Some said
  -- where it does not, its steps are spent, or it ends so within more
  pub goes_on : (run steps).outcome ≡ Going
      → (said ≡ done.Spent) ⊎ (answer_of (run more).outcome ≡ Some said)

-- With a meter, it is exactly how the program's own run of as many steps ends, or that these are
-- spent.
abbrev pub AnswersFor : {words : List Text} {moment : ℕ} {w : World} → GoesAhead words moment w
    → Option ℕ → Done → Type 0
AnswersFor g None said = AnswersAs (own_run g) g.session.steps (own_bound g) said
AnswersFor g (Some turns) said = answer_of (own_run g turns).outcome ≡ Some said

-- a part of the outside that did not fail, and whose count tells it
abbrev pub Sound : {A : Type 0} → Seen A → Seen A → Type 0
Sound old new = (new.faults ≡ old.faults) × (old.faults < 2 ^ 64 - 1)

-- no count of the outside rose
pub record NoCountRose (w v : World) : Type 0 where
  pub shelf : Sound w.shelf v.shelf
  pub input : Sound w.input v.input
  pub out : Sound w.out v.out
  pub err : Sound w.err v.err

-- Where nothing refuses and no call of the outside fails, `go` answers as the program itself ends,
-- if memory does not run out.
abbrev pub GoIsComplete : Type 0
GoIsComplete = (words : List Text) (moment : ℕ) (w v : World) (said : Done)
    (g : GoesAhead words moment w) → Does AreMade words moment w v said → NoCountRose w v
    → (said ≡ done.NoMemory) ⊎ AnswersFor g g.meter said

-- ---- a run takes no memory

-- the names of the files that a command keeps which runs a guest
abbrev pub kept_by : Command → Option (List Text)
kept_by (command.Go input name pages method_bytes meter session) = Some session.keep.names
kept_by (command.Interp input name pages session) = Some session.keep.names
kept_by (command.Run class words session) = Some session.keep.names
kept_by (command.Translate input name pages method_bytes meter) = None
kept_by (command.Verify class) = None
kept_by (command.Frames class) = None
kept_by (command.Check class) = None
kept_by (command.Asm input output) = None
kept_by (command.List input) = None
kept_by (command.Make count method_bytes) = None
kept_by (command.Link output inputs entry) = None
kept_by (command.Pipe classes words steps disk pipe) = None

-- The whole run of a command was made: input lost what it read, and output took what it wrote.
pub record RanWhole (c : Command) (moment : ℕ) (w v : World) : Type 0 where
  pub due : Due
  pub is_due : IsDueOf AreMade c moment w due
  -- the run is among its deeds
  pub turns : ℕ
  pub stage : ℕ → Stage
  pub front : List Deed
  pub rear : List Deed
  pub runs : due.deeds ≡ front ++ plays turns stage ∷ rear
  -- and comes to its last stage
  pub input : LosesRead w.input v.input (stage turns).left
  pub out : Takes w.out v.out (stage turns).output

-- Where memory runs out in a command that runs a guest, nothing was read or written yet, or the run
-- was made to its end and files are kept behind it.
abbrev pub RunsTakeNoMemory : Type 0
RunsTakeNoMemory = (words : List Text) (moment : ℕ) (w v : World) (c : Command)
    (names : List Text) → command_of words ≡ Ok c → kept_by c ≡ Some names
    → Does AreMade words moment w v done.NoMemory
    → ((v.input ≡ w.input) × (v.out ≡ w.out)) ⊎ ((names ≢ []) × RanWhole c moment w v)
