-- What holds of guards.
use Rattle.std.specs.Prelude.{◌≡◌, ◌≢◌, ℕ, ◌+◌, ◌-◌, ◌<◌, ◌≤◌, Bool, List}
use Rattle.run_definition.specs.declared.order.Order.{Order}
use Rattle.mips_definition.specs.State.{State}
use Rattle.delay_slots.specs.declared.unit.Unit.{Unit}
use Rattle.delay_slots.specs.Places.{Address}
use Rattle.delay_slots.specs.Turns.{unit_turn_count}
use Rattle.jvm_definition.specs.declared.instruction.Instruction.{Instruction}
use Rattle.jvm_definition.specs.Program.{Program}
use Rattle.jvm_definition.specs.Effect.{Workspace, faults}
use Rattle.emit_steps.specs.declared.step.Step.{Step}
use Rattle.emit_steps.specs.Offsets.{CodeOffset}
use Rattle.emit_steps.specs.Outcomes.{outcome, ended, stopped}
use Rattle.emit_steps.specs.Placing.{LiesAt}
use Rattle.emit_steps.specs.Widths.{size}
use Rattle.emit_paths_laws.specs.Classes.{reads, chars, switches, entries, puts}
use Rattle.emit_paths_laws.specs.Paths.{weigh}
use Rattle.emit_simulation_laws.specs.Lawful.{KnownByUnit}
use Rattle.emit_simulation_laws.specs.Holding.{HoldsOn}
use Rattle.emit_simulation_laws.specs.Sites.{Site, stands, whole_weight}
use Rattle.emit_simulation_laws.specs.Following.{ComesToEnd, ComesToTurn}
use Rattle.meter.specs.Guards.{left_field, counted_code, guard_code}
use Rattle.meter_laws.specs.Meters.{HasLeft, leaving, spent_fault, with_spent, EndsSpent}

-- ---- guards

-- at most so many turns of the classes for a guard
abbrev pub most_turns : ℕ
most_turns = 12

-- Enough is left: the guard comes to its end, where the unit's turns are taken off.
abbrev pub GuardsTakeTurnsOff : Type 0
GuardsTakeTurnsOff =
    (unit : Unit) (site : Site) (order : Order) (known : ℕ → Bool) (at : CodeOffset) (w : Workspace)
    (x : State) (left : ℕ)
    → LiesAt site.program site.method at (guard_code unit x.pc)
    → KnownByUnit known unit
    → HoldsOn 0 known w x
    → HasLeft left w
    → unit_turn_count unit x ≤ left
    → ComesToEnd site at (at + size (guard_code unit x.pc)) 1 most_turns
    (whole_weight order (guard_code unit x.pc)) (λ v. v ≡ leaving (left - unit_turn_count unit x) w)
    (stands site at w)

-- There the guest's state is held as before.
abbrev pub GuardsKeepTheState : Type 0
GuardsKeepTheState =
    (bank : ℕ) (known : ℕ → Bool) (w : Workspace) (x : State) (left : ℕ)
    → HoldsOn bank known w x
    → HoldsOn bank known (leaving left w) x

-- Too few are left: the guard ends the run at the unit's address.
abbrev pub GuardsEndTheRun : Type 0
GuardsEndTheRun =
    (unit : Unit) (site : Site) (order : Order) (known : ℕ → Bool) (at : CodeOffset) (w : Workspace)
    (x : State) (left : ℕ)
    → LiesAt site.program site.method at (guard_code unit x.pc)
    → KnownByUnit known unit
    → HoldsOn 0 known w x
    → HasLeft left w
    → left < unit_turn_count unit x
    → ComesToTurn site at (at + size (guard_code unit x.pc)) 1 most_turns
    (whole_weight order (guard_code unit x.pc)) (EndsSpent x.pc) (stands site at w)

-- Code stops within so many instructions where it ends the run in the fault of a spent meter at an address. Until then it has changed nothing but
-- the stack.
pub record StopsSpent (program : Program) (words : ℕ) (code : List Step) (w : Workspace)
    (at : Address) : Type 0 where
  pub turns : ℕ
  pub step : ℕ
  pub some : 1 ≤ turns
  pub in_time : turns + 1 ≤ most_turns
  pub comes : outcome program words code w
      ≡ stopped turns step (with_spent w at) (faults (spent_fault at))

-- So the guard stops there.
abbrev pub GuardsStopSpent : Type 0
GuardsStopSpent =
    (unit : Unit) (program : Program) (words : ℕ) (known : ℕ → Bool) (w : Workspace) (x : State)
    (left : ℕ) (at : Address)
    → KnownByUnit known unit
    → HoldsOn 0 known w x
    → HasLeft left w
    → left < unit_turn_count unit x
    → StopsSpent program words (guard_code unit at) w at

-- ---- code that takes off a number of turns that is known

abbrev pub CountedCodeIsPaid : Type 0
CountedCodeIsPaid =
    (program : Program) (words turns left : ℕ) (at : Address) (w : Workspace)
    → turns ≤ 2
    → HasLeft left w
    → turns ≤ left
    → outcome program words (counted_code turns at) w ≡ ended 7 (leaving (left - turns) w)

abbrev pub CountedCodeEnds : Type 0
CountedCodeEnds =
    (program : Program) (words turns left : ℕ) (at : Address) (w : Workspace)
    → turns ≤ 2
    → HasLeft left w
    → left < turns
    → outcome program words (counted_code turns at) w
    ≡ stopped 6 6 (with_spent w at) (faults (spent_fault at))

-- ---- what guards count

-- A guard counts nothing of what is counted of runs.
pub record CountsNothing (total : (Instruction → ℕ) → ℕ) : Type 0 where
  pub no_reads : total reads ≡ 0
  pub no_chars : total chars ≡ 0
  pub no_switches : total switches ≡ 0
  pub no_entries : (is_span : ℕ → Bool) → total (entries is_span) ≡ 0

abbrev pub GuardsCountNothing : Type 0
GuardsCountNothing =
    (order : Order) (unit : Unit) (at : Address)
    → CountsNothing (whole_weight order (guard_code unit at))

-- no field but the meter is written
abbrev pub GuardsWriteTheMeter : Type 0
GuardsWriteTheMeter =
    (order : Order) (unit : Unit) (at : Address) (f : ℕ)
    → f ≢ left_field
    → whole_weight order (guard_code unit at) (puts f) ≡ 0

-- so is it for code that takes off a number of turns that is known
abbrev pub CountedCodeCountsNothing : Type 0
CountedCodeCountsNothing =
    (turns : ℕ) (at : Address) → CountsNothing (λ weight. weigh weight (counted_code turns at))

abbrev pub CountedCodeWritesTheMeter : Type 0
CountedCodeWritesTheMeter =
    (turns : ℕ) (at : Address) (f : ℕ)
    → f ≢ left_field
    → weigh (puts f) (counted_code turns at) ≡ 0
