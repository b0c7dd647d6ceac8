-- A program with a meter whose host fills the meter again once it is spent, and lets the program go on.
use Rattle.std.specs.Prelude.{◌≡◌, ℕ, ◌+◌, ◌-◌, ◌*◌, ◌^◌, ◌<◌, ◌≤◌, ◌==◌, if◌then◌else◌, true, List, [], ◌∷◌, sum, Option}
use Rattle.run_definition.specs.declared.order.Order.{Order}
use Rattle.run_definition.specs.Question.{Question}
use Rattle.run_definition.specs.Answer.{Answer}
use Rattle.run_definition.specs.declared.fault.Fault.{Fault}
use Rattle.run_definition.specs.declared.outcome.Outcome.{Outcome}
use Rattle.run_definition.specs.declared.outcome.Outcome.TheVariants.{Going, Faulted}
use Rattle.run_definition.specs.Turn.{outcome_of, «fault»}
use Rattle.run_definition.specs.Run.{Run, run_of}
use Rattle.nv_events.specs.Parts.{after}
use Rattle.run_simulation_laws.specs.Meter.{IsMetered}
use Rattle.mips_definition.specs.State as guest
use Rattle.mips_definition.specs.Step as guest_step
use Rattle.delay_slots.specs.Places.{Address}
use Rattle.jvm_definition.specs.declared.value.Value.{Value}
use Rattle.jvm_definition.specs.declared.value.Value.TheVariants.{Int as int}
use Rattle.jvm_definition.specs.Values.{Heap}
use Rattle.jvm_definition.specs.Program.{Program}
use Rattle.jvm_definition.specs.Step.{JvmState, jvm_start, jvm_turn}
use Rattle.emit_layout.specs.FieldNumbers.{pc_field}
use Rattle.meter.specs.Guards.{left_field, spent_kind}
use Rattle.meter_laws.specs.Meters.{spent_fault}
use Rattle.emit_program_laws.specs.Entered.{HoldsGuest, entered_over}
use Rattle.emit_program_laws.specs.TrampolineLaws.Classes.{CodeClass}
use Rattle.emit_program_laws.specs.TrampolineLaws.Programs.{IsTranslated}
use Rattle.emit_program_laws.specs.Translated.{guest_start}
use Rattle.emit_metered_laws.specs.Metering.{spent}
use Rattle.emit_metered_laws.specs.Programs.{IsMeteredProgram, LoadsByMeterWithin, MeteredProgram}

-- ---- what the host does

-- field pc has the fault's address, and so many turns are put on the meter
abbrev pub refilled : Address → ℕ → (ℕ → Value) → ℕ → Value
refilled at left fields f =
    if f == pc_field then int at else if f == left_field then int left else fields f

-- so it enters the method that chooses, over what a run has left
abbrev pub entered_again : ℕ → Address → ℕ → JvmState → JvmState
entered_again choose at left y = entered_over choose (refilled at left y.fields) y.heap

-- ---- one slice

-- Fields and arrays hold a guest between two of its instructions, and so many turns are left on the meter.
pub record HoldsByMeter (order : Order) (code : ℕ → Option ℕ) (choose left : ℕ)
    (fields : ℕ → Value) (heap : Heap) (t : guest.State) : Type 0 where
  pub holds : HoldsGuest order code choose fields heap t
  pub left_is : fields left_field ≡ int left
  pub small : left < 2 ^ 31

-- The run of classes whose meter was spent, with so many turns on it at a guest's state, leaves the
-- guest between two of its instructions: after as many turns as were left, or one fewer, where the
-- last one is a branch's for whose slot no turn is left.
pub record LeavesGuest {K : Type 0} (reply : K → Question → Option (Answer × K)) (order : Order)
    (code : ℕ → Option ℕ) (choose left : ℕ) (t : guest.State) (k : K) (run : Run JvmState K)
    : Type 0 where
  -- the turns that are not made are still on the meter
  pub unmade : ℕ
  pub few : unmade ≤ 1
  pub within : unmade ≤ left
  pub left_is : run.last.fields left_field ≡ int unmade
  -- the guest goes on after the others, and has asked the same
  pub made : Run guest.State K
  pub made_is : made ≡ run_of guest_step.turn reply (left - unmade) t k
  pub goes : made.outcome ≡ Going
  pub questions : run.questions ≡ made.questions
  pub system : run.system ≡ made.system
  pub outcome : run.outcome ≡ outcome_of («fault» (spent_fault made.last.pc))
  -- with the fault's address in field pc, and whatever on the meter, its state is held
  pub holds : (more : ℕ) → more < 2 ^ 31
      → HoldsByMeter order code choose more (refilled made.last.pc more run.last.fields)
      run.last.heap made.last

-- One slice is the guest's run of so many turns, and where the guest goes on, it is left so.
pub record IsSlice {K : Type 0} (reply : K → Question → Option (Answer × K)) (order : Order)
    (code : ℕ → Option ℕ) (choose left : ℕ) (t : guest.State) (k : K) (run : Run JvmState K)
    : Type 0 where
  pub metered : IsMetered spent (run_of guest_step.turn reply left t k) run
  pub leaves : (run_of guest_step.turn reply left t k).outcome ≡ Going
      → LeavesGuest reply order code choose left t k run

-- Where the method that chooses among classes is entered over a guest's state, with turns on the meter, that is a slice: in as many turns as are
-- enough for these and two more.
abbrev pub SpentMetersGoOn : {K : Type 0} → (K → Question → Option (Answer × K)) → Type 0
SpentMetersGoOn {K} reply =
    (program : Program) (words : ℕ) (order : Order) (choose missing : ℕ)
    (classes : List CodeClass) (code : ℕ → Option ℕ)
    (fields : ℕ → Value) (heap : Heap) (t : guest.State) (left m : ℕ) (k : K)
    → IsTranslated true program order choose missing classes code
    → HoldsByMeter order code choose left fields heap t
    → 1024 * (left + 2) ≤ m
    → IsSlice reply order code choose left t k
    (run_of (jvm_turn program words) reply m (entered_over choose fields heap) k)

-- So is the run of a program from its start, where a turn at least is on its meter.
abbrev pub FirstRunsAreSlices : {K : Type 0} → (K → Question → Option (Answer × K)) → Type 0
FirstRunsAreSlices {K} reply =
    (p : MeteredProgram) (most_to_start m : ℕ) (k : K)
    → IsMeteredProgram p
    → LoadsByMeterWithin p most_to_start
    → 1 ≤ p.turns
    → 1024 * (p.turns + 2) + most_to_start ≤ m
    → let t = p.translated in
    IsSlice reply t.order t.code t.choose p.turns (guest_start t) k
    (run_of (jvm_turn t.program t.words) reply m (jvm_start t.program) k)

-- ---- all slices

-- so many turns beside those that a field of the meter has
abbrev pub with_more : Value → ℕ → ℕ
with_more (int left) more = left + more
with_more other more = more

-- where the meter was spent the next slices follow
abbrev pub then_slices : {K : Type 0} → (Fault → Run JvmState K) → Run JvmState K → Outcome
    → Run JvmState K
then_slices again r (Faulted f) =
    if f.kind == spent_kind then after r.questions (again f) else r
then_slices again r other = r

-- The runs one after the other. Where the meter is spent, so many turns are put on it beside those that are left.
abbrev pub sliced : {K : Type 0} → (JvmState → K → Run JvmState K) → ℕ → List ℕ → JvmState → K
    → Run JvmState K
sliced slice choose [] j k = slice j k
sliced slice choose (more ∷ rest) j k =
    let r = slice j k in
    then_slices (λ f. sliced slice choose rest
    (entered_again choose f.pc (with_more (r.last.fields left_field) more) r.last) r.system) r
    r.outcome

-- In slices the classes run as the guest does in as many turns as were put on the meter in all of them.
abbrev pub SlicesAddUp : {K : Type 0} → (K → Question → Option (Answer × K)) → Type 0
SlicesAddUp {K} reply =
    (program : Program) (words : ℕ) (order : Order) (choose missing : ℕ)
    (classes : List CodeClass) (code : ℕ → Option ℕ)
    (fields : ℕ → Value) (heap : Heap) (t : guest.State) (left m : ℕ) (more : List ℕ) (k : K)
    → IsTranslated true program order choose missing classes code
    → HoldsByMeter order code choose left fields heap t
    → left + sum more < 2 ^ 31
    → 1024 * (left + sum more + 2) ≤ m
    → IsMetered spent (run_of guest_step.turn reply (left + sum more) t k)
    (sliced (run_of (jvm_turn program words) reply m) choose more (entered_over choose fields heap)
    k)

-- So it is from the start on.
abbrev pub SlicesAddUpFromStart : {K : Type 0} → (K → Question → Option (Answer × K)) → Type 0
SlicesAddUpFromStart {K} reply =
    (p : MeteredProgram) (most_to_start m : ℕ) (more : List ℕ) (k : K)
    → IsMeteredProgram p
    → LoadsByMeterWithin p most_to_start
    → 1 ≤ p.turns
    → p.turns + sum more < 2 ^ 31
    → 1024 * (p.turns + sum more + 2) + most_to_start ≤ m
    → let t = p.translated in
    IsMetered spent (run_of guest_step.turn reply (p.turns + sum more) (guest_start t) k)
    (sliced (run_of (jvm_turn t.program t.words) reply m) t.choose more (jvm_start t.program) k)
