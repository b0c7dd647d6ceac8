-- When code follows a unit's turns past the code of its delay slot.
use Rattle.std.specs.Prelude.{◌≡◌, ℕ, ◌+◌, ◌*◌, ◌≤◌, Bool, List}
use Rattle.run_definition.specs.declared.order.Order.{Order}
use Rattle.jvm_definition.specs.declared.instruction.Instruction.{Instruction}
use Rattle.jvm_definition.specs.Effect.{Workspace}
use Rattle.mips_definition.specs.State.{State}
use Rattle.mips_definition.specs.declared.inst.Inst.{Inst}
use Rattle.delay_slots.specs.declared.unit.Unit.TheVariants.{Branch}
use Rattle.delay_slots.specs.Turns.{UnitTurns, turn_count, last_turn, unit_turns}
use Rattle.emit_steps.specs.declared.step.Step.{Step}
use Rattle.emit_steps.specs.Placing.{LiesAt}
use Rattle.emit_steps.specs.Widths.{size}
use Rattle.emit_steps.specs.Offsets.{CodeOffset}
use Rattle.emit_instructions.specs.Units.{instruction_code, next_address, unit_code}
use Rattle.emit_simulation_laws.specs.Lawful.{IsLawful, KnownByUnit}
use Rattle.emit_simulation_laws.specs.Holding.{HoldsOn}
use Rattle.emit_simulation_laws.specs.Sites.{Site, stands, whole_weight}
use Rattle.emit_simulation_laws.specs.Following.{Follows}
use Rattle.emit_instructions_laws.specs.Units.{UnitArrives}

-- The code follows the turns, and nothing is counted of the slot's code that lies in it.
pub record FollowsPast (site : Site) (order : Order) (at : CodeOffset) (code slot : List Step)
    (Arrives : Workspace → State → Type 0) (w : Workspace) (turns : UnitTurns) : Type 0 where
  pub total : (Instruction → ℕ) → ℕ
  pub weighs : (weight : Instruction → ℕ)
      → total weight + whole_weight order slot weight ≤ whole_weight order code weight
  pub follows : Follows site at (at + size code) (turn_count turns) (132 * turn_count turns)
      total Arrives (stands site at w) (last_turn turns)

-- ---- the law

-- where a branch with a delay slot has one turn alone, which passes the slot over, its code follows
-- that turn past the slot's code
abbrev pub SlotsArePassedOver : Type 0
SlotsArePassedOver =
    (i slot : Inst) (site : Site) (order : Order) (bank : ℕ) (known : ℕ → Bool) (at : CodeOffset)
    (w : Workspace) (x : State)
    → IsLawful (Branch i slot)
    → LiesAt site.program site.method at (unit_code bank (Branch i slot) x.pc)
    → KnownByUnit known (Branch i slot)
    → HoldsOn bank known w x
    → turn_count (unit_turns (Branch i slot) x) ≡ 1
    → FollowsPast site order at (unit_code bank (Branch i slot) x.pc)
    (instruction_code bank slot (next_address x.pc)) (UnitArrives bank known (Branch i slot) x.pc w) w
    (unit_turns (Branch i slot) x)
