-- What is proved of a translation with a meter: it runs as the program does, until the program has made as many turns as the meter had.
use Rattle.std.specs.Prelude.{ℕ, ◌+◌, ◌*◌, ◌^◌, ◌<◌, ◌≤◌, List, sum, Option}
use Rattle.run_definition.specs.Question.{Question}
use Rattle.run_definition.specs.Answer.{Answer, next_answer}
use Rattle.run_definition.specs.Run.{run_of}
use Rattle.nv_values.specs.Names.{Text}
use Rattle.run_simulation_laws.specs.Meter.{IsMetered}
use Rattle.mips_definition.specs.State.{State}
use Rattle.mips_definition.specs.Step as guest
use Rattle.elf_definition.specs.Start.{Source, image_of}
use Rattle.elf_definition.specs.Loading.{start_of}
use Rattle.unix_definition.specs.System.{System}
use Rattle.unix_definition.specs.Unix.{reply}
use Rattle.jvm_definition.specs.declared.value.Value.{Value}
use Rattle.jvm_definition.specs.Values.{Heap}
use Rattle.jvm_definition.specs.Program.{Program}
use Rattle.jvm_definition.specs.Step.{jvm_start, jvm_turn}
use Rattle.class_definition.specs.declared.class.Class.{Class}
use Rattle.class_definition.specs.Linking.{program_of}
use Rattle.emit_layout.specs.Numbers.{choose_number}
use Rattle.emit_program_laws.specs.Entered.{entered_over}
use Rattle.emit_metered_laws.specs.Metering.{spent}
use Rattle.emit_metered_laws.specs.Slices.{HoldsByMeter, IsSlice, sliced}
use Rattle.translate_program.specs.declared.named_file.NamedFile.{NamedFile}
use Rattle.translate_program.specs.Files.{meter_allow, need}
use Rattle.nv_translate.specs.Calls.{HoldsAtMeteredCalls}
use Rattle.nv_translate.specs.Translated.{HoldClasses, classes_run, guest_run}

-- Over every list of answers of the system, in every region that has room for the pages, and in as many instructions as are allowed or more: the
-- classes make the calls that the program makes in so many turns. Where it is over by then, they end as it does. Where it is not, they end in
-- the fault of a spent meter, at the instruction that it would make next.
pub record StopsByItsMeter (source : Source) (turns : ℕ) (program : Program) : Type 0 where
  pub metered : (words m : ℕ) (answers : List Answer) → need (image_of source).mapped ≤ words
      → meter_allow (image_of source).mapped turns ≤ m
      → IsMetered spent
      (run_of guest.turn next_answer turns (start_of (image_of source)) answers)
      (run_of (jvm_turn program words) next_answer m (jvm_start program) answers)

-- So it is over the system, from each of its states; and they leave it in the state in which the program leaves it.
pub record EndsByItsMeter (source : Source) (turns : ℕ) (classes : List Class) : Type 0 where
  pub metered : (system : System) (words m : ℕ) → need (image_of source).mapped ≤ words
      → meter_allow (image_of source).mapped turns ≤ m
      → IsMetered spent (guest_run source system turns) (classes_run classes words system m)

-- ---- in slices

-- A host may let the classes run in slices, over a kind of system state, in every region that has room for the pages: where the meter is spent, it
-- puts the fault's address into field pc and more turns on the meter, and enters `choose()V`.
pub record RunsInSlices {K : Type 0} (reply : K → Question → Option (Answer × K)) (source : Source)
    (turns : ℕ) (program : Program) : Type 0 where
  -- The run from the start is a slice: where the program goes on then, fields and arrays hold its state, and what it did not make is on the meter.
  pub first : (words m : ℕ) (k : K) → 1 ≤ turns → need (image_of source).mapped ≤ words
      → meter_allow (image_of source).mapped turns ≤ m
      → IsSlice reply (image_of source).order (image_of source).code choose_number turns
      (start_of (image_of source)) k (run_of (jvm_turn program words) reply m (jvm_start program) k)
  -- So is each run for which fields and arrays hold its state when `choose()V` is entered, whoever put it there.
  pub next : (words : ℕ) (fields : ℕ → Value) (heap : Heap) (t : State) (left m : ℕ) (k : K)
      → HoldsByMeter (image_of source).order (image_of source).code choose_number left fields heap t
      → 1024 * (left + 2) ≤ m
      → IsSlice reply (image_of source).order (image_of source).code choose_number left t k
      (run_of (jvm_turn program words) reply m (entered_over choose_number fields heap) k)
  -- One after the other from the start, they are the program's run of as many turns as their sum.
  pub sums : (words m : ℕ) (more : List ℕ) (k : K) → 1 ≤ turns → turns + sum more < 2 ^ 31
      → need (image_of source).mapped ≤ words
      → meter_allow (image_of source).mapped (turns + sum more) ≤ m
      → IsMetered spent (run_of guest.turn reply (turns + sum more) (start_of (image_of source)) k)
      (sliced (run_of (jvm_turn program words) reply m) choose_number more (jvm_start program) k)
  -- So they are from each such state.
  pub next_sums : (words : ℕ) (fields : ℕ → Value) (heap : Heap) (t : State) (left m : ℕ)
      (more : List ℕ) (k : K)
      → HoldsByMeter (image_of source).order (image_of source).code choose_number left fields heap t
      → left + sum more < 2 ^ 31
      → 1024 * (left + sum more + 2) ≤ m
      → IsMetered spent (run_of guest.turn reply (left + sum more) t k)
      (sliced (run_of (jvm_turn program words) reply m) choose_number more
      (entered_over choose_number fields heap) k)

-- ---- all of it

-- What a command relies on of the files of a translation with a meter: how they run.
pub record RunsByItsMeter (source : Source) (name : Text) (turns : ℕ) (files : List NamedFile)
    : Type 0 where
  -- the classes in the files
  pub classes : List Class
  pub held : HoldClasses name files classes
  -- The program that they are runs as the one that was translated, and stops by its meter, whatever the system answers.
  pub stops : StopsByItsMeter source turns (program_of classes)
  -- So over the system of the commands: with the same files and the same output.
  pub ends : EndsByItsMeter source turns classes

-- What a user relies on: a host may let them run in slices too, over every list of answers, and over the system.
pub record TranslatedMetered (source : Source) (name : Text) (turns : ℕ) (files : List NamedFile)
    : Type 0 where
  pub runs : RunsByItsMeter source name turns files
  pub slices : RunsInSlices next_answer source turns (program_of runs.classes)
  pub system_slices : RunsInSlices reply source turns (program_of runs.classes)
  -- Where they call the system, fields and arrays hold the program's state, and the turns that are left.
  pub calls : HoldsAtMeteredCalls next_answer source turns (program_of runs.classes)
  pub system_calls : HoldsAtMeteredCalls reply source turns (program_of runs.classes)
