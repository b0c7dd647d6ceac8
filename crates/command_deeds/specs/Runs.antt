-- What a command that runs a guest is to do: its arguments and files, its run, and the files that
-- are kept.
use Rattle.std.specs.Prelude.{◌≡◌, ℕ, nat_lt, if◌then◌else◌, List, [], ◌∷◌, ◌++◌, flat_map, Option, Some, None, option_map, IfErr, IfOk, Ok, Err}
use Rattle.nv_outside.specs.Files.{AgreeWith, Files}
use Rattle.run_definition.specs.declared.outcome.Outcome.{Outcome}
use Rattle.run_definition.specs.declared.outcome.Outcome.TheVariants.{Exited, Faulted, Trapped, Waiting, Going}
use Rattle.run_definition.specs.Run.{Run, run_of}
use Rattle.run_definition.specs.Turn.{Turn}
use Rattle.nv_values.specs.Names.{Text}
use Rattle.command_words.specs.declared.session.Session.{Session}
use Rattle.unix_definition.specs.Files.{GuestFiles, bytes_at, node_named}
use Rattle.unix_definition.specs.Calls.{block_length}
use Rattle.unix_definition.specs.System.{System}
use Rattle.unix_definition.specs.Unix.{blocks_needed, system_start, reply}
use Rattle.unix_calls.specs.Arriving.{run_arriving}
use Rattle.unix_calls.specs.Held.{Held}
use Rattle.unix_calls.specs.Playing.{run_over}
use Rattle.unix_calls.specs.Stages.{Stage, stage_of}
use Rattle.command_deeds.specs.declared.alone.TheConstants.{BLOCKS}
use Rattle.command_deeds.specs.declared.done.Done.{Done}
use Rattle.command_deeds.specs.declared.done.Done.TheVariants as done
use Rattle.command_deeds.specs.Checks.{Check, after_check, file_at, unless_fault}
use Rattle.command_deeds.specs.Deeds.{Deed, stores, plays}
use Rattle.command_deeds.specs.Ends.{Due, answers, says}
use Rattle.command_deeds.specs.World.{World}
use Rattle.command_deeds.specs.declared.launch.Launch.{Launch}

-- how a machine is started: the name that is its first argument, its options, and the moment
pub record Plan : Type 0 where
  pub name : Text
  pub session : Session
  pub moment : ℕ

abbrev pub plan_of : Launch → Plan
plan_of launch = record {
  name = launch.name.now;
  session = launch.session.now;
  moment = launch.moment;
}

-- ---- arguments and files

-- a file's name and bytes
abbrev pub GivenFile : Type 0
GivenFile = Text × List ℕ

-- a guest's arguments: the name of its class comes first
abbrev pub arguments_of : Plan → List Text
arguments_of plan = plan.name ∷ plan.session.arguments

-- how many bytes the argument block has with the first argument that does not fit, of which there
-- may be 4,096
abbrev pub too_long : List Text → List Text → Option ℕ
too_long before [] = None
too_long before (text ∷ texts) =
    if nat_lt 4096 (block_length (before ++ text ∷ []))
    then Some (block_length (before ++ text ∷ []))
    else too_long (before ++ text ∷ []) texts

-- the arguments of a guest, if they fit
abbrev pub arguments_for : Plan → Check (List Text)
arguments_for plan = unless_fault (too_long [] (arguments_of plan)) done.ArgsTooLong (arguments_of plan)

-- files, if a disk of so many blocks holds them
abbrev pub on_disk : ℕ → List GivenFile → Check (List GivenFile)
on_disk blocks files = if nat_lt blocks (blocks_needed files)
    then Err (says (done.FilesTooLarge (blocks_needed files))) else Ok files

-- files that a guest finds, which are loaded and added one after the other
abbrev pub files_for : Files → ℕ → ℕ → List GivenFile → List Text → Check (List GivenFile)
files_for files blocks word found [] = Ok found
files_for files blocks word found (name ∷ names) =
    after_check (file_at files word name) (λ bytes.
    after_check (on_disk blocks (found ++ (name, bytes) ∷ [])) (λ more.
    files_for files blocks word more names))

-- the files of --with
abbrev pub session_files : Files → Session → Check (List GivenFile)
session_files files session = files_for files session.disk session.with.word [] session.with.names

-- the arguments of a guest fit, and the files that it finds are there and fit
abbrev pub found_for : Plan → Files → Check (List GivenFile)
found_for plan files = after_check (arguments_for plan) (λ arguments. session_files files plan.session)

-- ---- the run, and the files that are kept

-- keeping one file of a guest, if it has one of this name
abbrev pub keeping : GuestFiles → Text → Option ℕ → List Deed
keeping files name None = []
keeping files name (Some n) = stores name (bytes_at files n) ∷ []

-- the files of a guest that are kept, of these names, those that it has
abbrev pub kept : GuestFiles → List Text → List Deed
kept files names = flat_map (λ name. keeping files name (node_named files name)) names

-- the answer of a run's end; a run that waits has none, and over this system none does
abbrev pub answer_of : Outcome → Option Done
answer_of (Exited status) = Some (done.Exited status)
answer_of (Faulted f) = Some (done.Faulted f)
answer_of (Trapped k) = Some (done.Trapped k)
answer_of Waiting = None
answer_of Going = Some done.Spent

-- a run's work: it makes so many turns, and its files of these names are kept
abbrev pub played : ℕ → (ℕ → Stage) → GuestFiles → List Text → Outcome → Due
played steps stage files keep outcome = record {
  deeds = plays steps stage ∷ kept files keep;
  answer = option_map says (answer_of outcome);
}

-- what is due of so many turns of a machine, where this is its run for each number of them
abbrev pub of_runs : {S : Type 0} → (S → Turn S) → ℕ → (ℕ → Run S System) → List Text → Due
of_runs turn steps run keep =
    played steps (λ n. stage_of turn (run n)) (run steps).system.files keep (run steps).outcome

-- what is due of the run of a machine over a system as it is held
abbrev pub IsDueOfHeld : {S : Type 0} → ℕ → (S → Turn S) → S → Held → List Text → Option (List ℕ)
    → Due → Type 0
IsDueOfHeld steps turn s unix keep input due = (pieces : List (List ℕ))
    × (due ≡ of_runs turn steps (λ n. run_over turn n s unix input pieces) keep)

-- The run of a machine from a state for so many steps, over these files and what input has left,
-- where that is told, or else over some pieces of it, of which one comes before each call.
abbrev pub run_for : {S : Type 0} → ℕ → (S → Turn S) → S → Plan → List GivenFile → Option (List ℕ)
    → List (List ℕ) → Run S System
run_for steps turn s plan found (Some input) pieces =
    run_of turn reply steps s (system_start plan.session.disk plan.moment found (arguments_of plan) input)
run_for steps turn s plan found None pieces =
    run_arriving turn steps s (system_start plan.session.disk plan.moment found (arguments_of plan) [])
    pieces

-- what is due of this run for the steps of its session
abbrev pub session_run : {S : Type 0} → (S → Turn S) → S → Plan → List GivenFile → Option (List ℕ)
    → List (List ℕ) → Due
session_run turn s plan found input pieces =
    of_runs turn plan.session.steps (λ n. run_for n turn s plan found input pieces)
    plan.session.keep.names

-- What is due of a machine that is started so.
pub record IsDueOfPlay {S : Type 0} (turn : S → Turn S) (s : S) (plan : Plan) (w : World)
    (due : Due) : Type 0 where
  -- the files of --with: those of the shelf, where it tells them
  pub files : Files
  pub agree : AgreeWith w.shelf.told files
  -- the arguments fit, and the files are there and fit
  pub found : Check (List GivenFile)
  pub found_is : found ≡ found_for plan files
  -- pieces of input, of which one comes before each call where it does not tell what it has left
  pub pieces : List (List ℕ)
  -- the answer, or the run
  pub refused : IfErr found (λ answer. due ≡ answers answer)
  pub done : IfOk found (λ given. due ≡ session_run turn s plan given w.input.told pieces)

-- the run of a machine on a system of its own: with so many blocks, without files and input, and
-- with its name as the one argument
abbrev pub run_alone : {S : Type 0} → ℕ → (S → Turn S) → S → Text → ℕ → Run S System
run_alone steps turn s name moment =
    run_of turn reply steps s (system_start BLOCKS moment [] (name ∷ []) [])
