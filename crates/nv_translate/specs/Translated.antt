-- What holds of a translation, whatever way its classes are made: what a user relies on.
use Rattle.std.specs.Prelude.{◌≡◌, ◌≢◌, ℕ, ◌+◌, ◌*◌, ◌≤◌, List, slice_get, Option, Some}
use Rattle.std.specs.List.{AllZip}
use Rattle.run_definition.specs.Answer.{Answer, next_answer}
use Rattle.run_definition.specs.Run.{Run, run_of}
use Rattle.run_definition.specs.declared.outcome.Outcome.TheVariants.{Going}
use Rattle.nv_outside.specs.Files.{Files}
use Rattle.nv_values.specs.Names.{Text}
use Rattle.run_simulation_laws.specs.Runs.{SameRuns}
use Rattle.mips_definition.specs.State.{State}
use Rattle.mips_definition.specs.Step.{turn}
use Rattle.elf_definition.specs.Loading.{start_of}
use Rattle.elf_definition.specs.Start.{Source, image_of}
use Rattle.unix_definition.specs.System.{System}
use Rattle.unix_definition.specs.Unix.{reply}
use Rattle.jvm_definition.specs.declared.value.Value.{Value}
use Rattle.jvm_definition.specs.Again.{again, IsFree, IsLeft}
use Rattle.jvm_definition.specs.Program.{Program}
use Rattle.jvm_definition.specs.Step.{Loaded, jvm_start, jvm_turn, loaded_program, loaded_turn}
use Rattle.jvm_definition.specs.Values.{Heap}
use Rattle.class_definition.specs.ClassFile.{Spells}
use Rattle.class_definition.specs.Linking.{Accepted, program_of}
use Rattle.class_definition.specs.declared.class.Class.{Class}
use Rattle.class_sets.specs.ClassSets.{class_set}
use Rattle.class_sets.specs.declared.loaded.Loaded.TheVariants.{Classes}
use Rattle.emit_layout.specs.Numbers.{choose_number}
use Rattle.emit_program_laws.specs.Entered.{entered_over, HoldsGuest}
use Rattle.translate_program.specs.declared.named_file.NamedFile.{NamedFile}
use Rattle.translate_program.specs.Files.{allow, need, named_file_name}

-- ---- its files

-- Each of these is there under its name. There may be others.
abbrev pub AreStored : Files → List NamedFile → Type 0
AreStored files stored = (k : ℕ) (f : NamedFile) → slice_get stored k ≡ Some f
    → files (named_file_name f) ≡ Some f.bytes.items

-- Files hold classes that can be run by a name.
pub record HoldClasses (name : Text) (files : List NamedFile) (classes : List Class) : Type 0 where
  -- The files spell the classes, one each.
  pub spelled : AllZip (λ (f : NamedFile) (c : Class). Spells f.bytes.items c) files classes
  -- They link, and all their methods are typed.
  pub accepted : Accepted classes
  -- If the files are stored, among whatever others, they are the classes that are loaded by the name.
  pub stored : (all : Files) → AreStored all files → class_set all name ≡ Classes classes

-- ---- its runs

-- Over every list of answers of the system, and in every region that has room for the pages, a program of classes runs as the guest does: n turns of
-- the guest lie within the allowance for n, and m turns of the classes within m turns of the guest. They make the same calls with the same texts, and
-- end in the same way where the guest ends.
pub record RunsAlike (source : Source) (program : Program) : Type 0 where
  pub same : (words : ℕ) (answers : List Answer) → need (image_of source).mapped ≤ words
      → SameRuns turn (jvm_turn program words) next_answer (allow (image_of source).mapped)
      (start_of (image_of source)) (jvm_start program) answers

-- at most n steps of a program from its start, over the system in a state
abbrev pub guest_run : Source → System → ℕ → Run State System
guest_run source system n = run_of turn reply n (start_of (image_of source)) system

-- at most m instructions of classes from their start, in a region of so many words, over the system in a state
abbrev pub classes_run : List Class → ℕ → System → ℕ → Run Loaded System
classes_run classes words system m =
    run_of loaded_turn reply m (loaded_program (program_of classes) words) system

-- The other run ends as the one: after the same calls, in the same way, and with the system in the same state, in which are the files and what was
-- written.
pub record EndsAs {S T K : Type 0} (run : Run S K) (other : Run T K) : Type 0 where
  pub calls : other.questions ≡ run.questions
  pub outcome : other.outcome ≡ run.outcome
  pub system : other.system ≡ run.system

-- From each state of the system, and in every region that has room for the pages: where a program is over within n steps, its classes end as it does
-- within the allowance for n. And where the classes are over within m instructions, the program ends as they do within m steps.
pub record EndsAlike (source : Source) (classes : List Class) : Type 0 where
  -- where the program is over
  pub forth : (system : System) (words n : ℕ) → need (image_of source).mapped ≤ words
      → (guest_run source system n).outcome ≢ Going
      → EndsAs (guest_run source system n)
      (classes_run classes words system (allow (image_of source).mapped n))
  -- where the classes are over
  pub back : (system : System) (words m : ℕ) → need (image_of source).mapped ≤ words
      → (classes_run classes words system m).outcome ≢ Going
      → EndsAs (classes_run classes words system m) (guest_run source system m)

-- They run as the guest does from its start, whatever arrays are there, in every region that has room for the pages beside these.
pub record RunsAgain (source : Source) (program : Program) : Type 0 where
  pub same : (words : ℕ) (heap : Heap) (answers : List Answer) → IsFree heap
      → heap.used + need (image_of source).mapped ≤ words
      → SameRuns turn (jvm_turn program words) next_answer (allow (image_of source).mapped)
      (start_of (image_of source)) (again program heap) answers
  -- what runs have left of a heap, one after the other, is so: nothing stands behind it
  pub free : (heap : Heap) → IsLeft program heap → IsFree heap

-- From each state of the guest's between instructions, which the host has put into the fields of the main class and the arrays, they run as the guest
-- does once `choose()V` is entered, with 512 turns for one of the guest's.
pub record GoesOnAlike (source : Source) (program : Program) : Type 0 where
  pub same : (words : ℕ) (fields : ℕ → Value) (heap : Heap) (t : State)
      (answers : List Answer)
      → HoldsGuest (image_of source).order (image_of source).code choose_number fields heap t
      → SameRuns turn (jvm_turn program words) next_answer (λ n. 512 * n) t
      (entered_over choose_number fields heap) answers

-- ---- all of it

-- What may be said besides of how the files of a translation are made: with a meter of so many steps or none, of a program, by a name, with so many
-- bytes for a method.
abbrev pub Making : Type 1
Making = Option ℕ → Source → Text → ℕ → List NamedFile → Type 0

-- What a user relies on of the files of a translation.
pub record Translated (source : Source) (name : Text) (files : List NamedFile) : Type 0 where
  -- the classes in the files
  pub classes : List Class
  pub held : HoldClasses name files classes
  -- The program that they are runs as the one that was translated, whatever the system answers, and to every bound.
  pub runs : RunsAlike source (program_of classes)
  -- So over the system of the commands: they end as the program does, with the same files and the same output, and only if it does.
  pub ends : EndsAlike source classes
  -- They run so again and again, once the fields of the main class are 0 and null again, whatever runs before have left.
  pub again : RunsAgain source (program_of classes)
  -- And they go on so from where a host has put the program before it enters `choose()V`.
  pub entered : GoesOnAlike source (program_of classes)
