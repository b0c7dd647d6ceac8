-- What is held where the code of a unit calls the system.
use Rattle.std.specs.Prelude.{◌≡◌, ℕ, ◌≤◌, Bool, true, List, Some}
use Rattle.std.specs.List.{sum_by}
use Rattle.run_definition.specs.declared.order.Order.{Order}
use Rattle.run_simulation_laws.specs.Trail.{advanced, moved}
use Rattle.mips_definition.specs.State.{State}
use Rattle.delay_slots.specs.declared.unit.Unit.{Unit}
use Rattle.delay_slots.specs.Turns.{UnitTurns, one_turn, two_turns, last_turn, unit_turns}
use Rattle.jvm_definition.specs.declared.instruction.Instruction.{Instruction}
use Rattle.jvm_definition.specs.Effect.{Workspace}
use Rattle.jvm_definition.specs.Step.{JvmState}
use Rattle.emit_steps.specs.declared.step.Step.{Step}
use Rattle.emit_steps.specs.Offsets.{CodeOffset}
use Rattle.emit_steps.specs.Placing.{LiesAt}
use Rattle.emit_instructions.specs.Units.{unit_code}
use Rattle.emit_paths_laws.specs.Classes.{executed}
use Rattle.emit_paths_laws.specs.Paths.{LooksAtNoTarget}
use Rattle.emit_simulation_laws.specs.Holding.{HoldsOn}
use Rattle.emit_simulation_laws.specs.Lawful.{IsLawful, KnownByUnit}
use Rattle.emit_simulation_laws.specs.Sites.{Site, stands, turn_in, whole_weight}
use Rattle.emit_calls_laws.specs.Calls.{makes_call}
use Rattle.emit_calls_laws.specs.Holding.{StandsHolding}

-- the state in which the last of a unit's turns is made
abbrev pub last_state : State → UnitTurns → State
last_state x (one_turn last) = x
last_state x (two_turns slot last) = slot

-- By turns that only move, which weigh no more than code does, the classes come to where they call the system, and hold a state there.
pub record CodeComesToCall (site : Site) (order : Order) (code : List Step) (bank : ℕ)
    (known : ℕ → Bool) (t : State) (x : JvmState) : Type 0 where
  pub turns : ℕ
  pub at : JvmState
  pub comes : advanced (turn_in site) turns x ≡ Some at
  pub weighs : (weight : Instruction → ℕ) → LooksAtNoTarget weight
      → sum_by (executed site.program weight) (moved (turn_in site) turns x)
      ≤ whole_weight order code weight
  pub calls : makes_call (turn_in site at) ≡ true
  pub held : StandsHolding site bank known t at

-- Where the last of a unit's turns calls the system, the unit's code comes to a call, from each workspace that holds the state, and holds there
-- the state in which that turn is made.
abbrev pub UnitsHoldAtCalls : Type 0
UnitsHoldAtCalls =
    (unit : Unit) (site : Site) (order : Order) (bank : ℕ) (known : ℕ → Bool) (at : CodeOffset)
    (w : Workspace) (x : State)
    → IsLawful unit
    → LiesAt site.program site.method at (unit_code bank unit x.pc)
    → KnownByUnit known unit
    → HoldsOn bank known w x
    → makes_call (last_turn (unit_turns unit x)) ≡ true
    → CodeComesToCall site order (unit_code bank unit x.pc) bank known
    (last_state x (unit_turns unit x)) (stands site at w)
