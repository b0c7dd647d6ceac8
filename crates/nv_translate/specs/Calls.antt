-- What holds where the classes of a translation call the system.
use Rattle.std.specs.Prelude.{ℕ, ◌≤◌, Option}
use Rattle.run_definition.specs.Question.{Question}
use Rattle.run_definition.specs.Answer.{Answer}
use Rattle.run_definition.specs.Run.{run_of}
use Rattle.mips_definition.specs.State.{State}
use Rattle.mips_definition.specs.Step.{turn}
use Rattle.elf_definition.specs.Loading.{start_of}
use Rattle.elf_definition.specs.Start.{Source, image_of}
use Rattle.jvm_definition.specs.declared.value.Value.{Value}
use Rattle.jvm_definition.specs.Program.{Program}
use Rattle.jvm_definition.specs.Step.{jvm_start, jvm_turn}
use Rattle.jvm_definition.specs.Values.{Heap}
use Rattle.emit_layout.specs.Numbers.{choose_number}
use Rattle.emit_program_laws.specs.Entered.{HoldsGuest, entered_over}
use Rattle.emit_metered_laws.specs.Slices.{HoldsByMeter}
use Rattle.emit_calls_laws.specs.Calls.{CallsAlike}
use Rattle.emit_calls_laws.specs.Holding.{HoldsAtCall}
use Rattle.emit_calls_laws.specs.Running.{HoldByMeter}
use Rattle.emit_calls_laws.specs.Setting.{SetsState}
use Rattle.emit_calls_laws.specs.Turning.{HoldThere}
use Rattle.translate_program.specs.Files.{need}

-- A host may leave a run at a call, keep the tables, and set another state: fields and arrays hold it, so that it can enter `choose()V`.
abbrev pub StatesCanBeSet : Source → Type 0
StatesCanBeSet source =
    (fields : ℕ → Value) (heap : Heap) (t : State) (held : HoldsAtCall fields heap t)
    (set : ℕ → Value) (changed : Heap) (s : State)
    → SetsState (image_of source).order (image_of source).code held set changed s
    → HoldsGuest (image_of source).order (image_of source).code choose_number set changed s

-- Over a kind of system state, in every region that has room for the pages: where a run of the classes has come to a call, the program has come
-- to the same one, after no more turns. HI, LO and the link of LL of its state are in fields, and its memory is behind the tables.
pub record HoldsAtCalls {K : Type 0} (reply : K → Question → Option (Answer × K)) (source : Source)
    (program : Program) : Type 0 where
  -- So it is behind the first call of the run from the start.
  pub first : (words m : ℕ) (k : K) → need (image_of source).mapped ≤ words
      → CallsAlike turn (jvm_turn program words) reply m 1 (λ n. HoldThere)
      (start_of (image_of source)) k (run_of (jvm_turn program words) reply m (jvm_start program) k)
  -- So it is at each call of a run that `choose()V` begins over a state of the program's.
  pub next : (words : ℕ) (fields : ℕ → Value) (heap : Heap) (t : State) (m : ℕ) (k : K)
      → HoldsGuest (image_of source).order (image_of source).code choose_number fields heap t
      → CallsAlike turn (jvm_turn program words) reply m 0 (λ n. HoldThere) t k
      (run_of (jvm_turn program words) reply m (entered_over choose_number fields heap) k)
  pub left : StatesCanBeSet source

-- With a meter the registers of its state are in fields too, and what is left on the meter is what was put there, less the turns up to the call.
pub record HoldsAtMeteredCalls {K : Type 0} (reply : K → Question → Option (Answer × K))
    (source : Source) (turns : ℕ) (program : Program) : Type 0 where
  pub first : (words m : ℕ) (k : K) → need (image_of source).mapped ≤ words
      → CallsAlike turn (jvm_turn program words) reply m 1 (HoldByMeter turns)
      (start_of (image_of source)) k (run_of (jvm_turn program words) reply m (jvm_start program) k)
  -- So it is in each slice.
  pub next : (words : ℕ) (fields : ℕ → Value) (heap : Heap) (t : State) (left m : ℕ) (k : K)
      → HoldsByMeter (image_of source).order (image_of source).code choose_number left fields heap t
      → CallsAlike turn (jvm_turn program words) reply m 0 (HoldByMeter left) t k
      (run_of (jvm_turn program words) reply m (entered_over choose_number fields heap) k)
  pub left : StatesCanBeSet source
