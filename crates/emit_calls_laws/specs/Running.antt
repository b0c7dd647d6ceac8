-- What is held where the runs of translated programs call the system.
use Rattle.std.specs.Prelude.{ℕ, ◌+◌, ◌-◌, ◌≤◌, true, false, List, Option}
use Rattle.run_definition.specs.Question.{Question}
use Rattle.run_definition.specs.Answer.{Answer}
use Rattle.run_definition.specs.Run.{run_of}
use Rattle.run_definition.specs.declared.order.Order.{Order}
use Rattle.mips_definition.specs.State as guest
use Rattle.mips_definition.specs.Step as guest_step
use Rattle.jvm_definition.specs.Program.{Program}
use Rattle.jvm_definition.specs.declared.value.Value.{Value}
use Rattle.jvm_definition.specs.Values.{Heap}
use Rattle.jvm_definition.specs.Step.{JvmState, jvm_start, jvm_turn}
use Rattle.trampoline_laws.specs.Classes.{CodeClass}
use Rattle.trampoline_laws.specs.Programs.{IsTranslated}
use Rattle.emit_program_laws.specs.Entered.{HoldsGuest, entered_over}
use Rattle.emit_program_laws.specs.Translated.{TranslatedProgram, IsTranslatedProgram, guest_start}
use Rattle.emit_metered_laws.specs.Programs.{MeteredProgram, IsMeteredProgram}
use Rattle.emit_metered_laws.specs.Slices.{HoldsByMeter}
use Rattle.emit_calls_laws.specs.Calls.{CallsAlike}
use Rattle.emit_calls_laws.specs.Holding.{HoldsAtMeteredCall}
use Rattle.emit_calls_laws.specs.Turning.{HoldThere}

-- ---- without a meter

-- In every run of a translated program from its start, over a kind of system state: where it has come to a call, its guest has come to the
-- same one, and behind the first call the guest's state is held.
abbrev pub ProgramsHoldAtCalls : {K : Type 0} → (K → Question → Option (Answer × K)) → Type 0
ProgramsHoldAtCalls {K} reply =
    (t : TranslatedProgram) (m : ℕ) (k : K)
    → IsTranslatedProgram t
    → CallsAlike guest_step.turn (jvm_turn t.program t.words) reply m 1 (λ n. HoldThere)
    (guest_start t) k (run_of (jvm_turn t.program t.words) reply m (jvm_start t.program) k)

-- So it is at each call where the method that chooses among classes is entered over a state of the guest's.
abbrev pub EnteredProgramsHoldAtCalls : {K : Type 0} → (K → Question → Option (Answer × K)) → Type 0
EnteredProgramsHoldAtCalls {K} reply =
    (program : Program) (words : ℕ) (order : Order) (choose missing : ℕ)
    (classes : List CodeClass) (code : ℕ → Option ℕ)
    (fields : ℕ → Value) (heap : Heap) (t : guest.State) (m : ℕ) (k : K)
    → IsTranslated false program order choose missing classes code
    → HoldsGuest order code choose fields heap t
    → CallsAlike guest_step.turn (jvm_turn program words) reply m 0 (λ n. HoldThere) t k
    (run_of (jvm_turn program words) reply m (entered_over choose fields heap) k)

-- ---- with a meter

-- at the call that is made behind n turns, where so many were put on the meter
abbrev pub HoldByMeter : (turns n : ℕ) → guest.State → JvmState → Type 0
HoldByMeter turns n t y = (n + 1 ≤ turns) × HoldsAtMeteredCall (turns - (n + 1)) t y

-- So it is with a meter, and what is left on it is what was put there, less the turns up to this one.
abbrev pub MeteredProgramsHoldAtCalls : {K : Type 0} → (K → Question → Option (Answer × K)) → Type 0
MeteredProgramsHoldAtCalls {K} reply =
    (p : MeteredProgram) (m : ℕ) (k : K)
    → IsMeteredProgram p
    → let t = p.translated in
    CallsAlike guest_step.turn (jvm_turn t.program t.words) reply m 1 (HoldByMeter p.turns)
    (guest_start t) k (run_of (jvm_turn t.program t.words) reply m (jvm_start t.program) k)

-- So it is in each slice.
abbrev pub EnteredMetersHoldAtCalls : {K : Type 0} → (K → Question → Option (Answer × K)) → Type 0
EnteredMetersHoldAtCalls {K} reply =
    (program : Program) (words : ℕ) (order : Order) (choose missing : ℕ)
    (classes : List CodeClass) (code : ℕ → Option ℕ)
    (fields : ℕ → Value) (heap : Heap) (t : guest.State) (left m : ℕ) (k : K)
    → IsTranslated true program order choose missing classes code
    → HoldsByMeter order code choose left fields heap t
    → CallsAlike guest_step.turn (jvm_turn program words) reply m 0 (HoldByMeter left) t k
    (run_of (jvm_turn program words) reply m (entered_over choose fields heap) k)
