-- When the code of a unit follows the unit's turns.
use Rattle.std.specs.Prelude.{◌≡◌, ℕ, ◌+◌, ◌*◌, Bool}
use Rattle.run_definition.specs.declared.order.Order.{Order}
use Rattle.mips_definition.specs.State.{State}
use Rattle.mips_definition.specs.declared.inst.Inst.{Inst}
use Rattle.delay_slots.specs.declared.unit.Unit.{Unit}
use Rattle.delay_slots.specs.declared.unit.Unit.TheVariants.{Branch, SlotMissing, SlotIsBranch}
use Rattle.delay_slots.specs.Places.{Address}
use Rattle.delay_slots.specs.Turns.{unit_turns, turn_count, last_turn}
use Rattle.block_builder.specs.Registers.{unit_writes}
use Rattle.jvm_definition.specs.Effect.{Workspace}
use Rattle.emit_steps.specs.Widths.{size}
use Rattle.emit_steps.specs.Offsets.{CodeOffset}
use Rattle.emit_steps.specs.Placing.{LiesAt}
use Rattle.emit_instructions.specs.Units.{unit_code}
use Rattle.emit_simulation_laws.specs.Lawful.{IsInstruction, IsLawful, KnownByUnit}
use Rattle.emit_simulation_laws.specs.Holding.{HoldsOn}
use Rattle.emit_simulation_laws.specs.Sites.{Site, stands, whole_weight}
use Rattle.emit_simulation_laws.specs.Following.{Follows}
use Rattle.emit_simulation_laws.specs.Behind.{IsDone, HasGone}
use Rattle.emit_instructions_laws.specs.Instructions.{IsReady, InstructionFollows}

-- ---- the law

-- where the code of a unit at an address has come to its end
abbrev pub UnitArrives : ℕ → (ℕ → Bool) → Unit → Address → Workspace → Workspace → State → Type 0
UnitArrives bank known (Branch i slot) at before after t =
    HasGone bank known (unit_writes (Branch i slot)) i at before after t
UnitArrives bank known (SlotMissing i) at before after t =
    HasGone bank known (unit_writes (SlotMissing i)) i at before after t
UnitArrives bank known (SlotIsBranch i word) at before after t =
    HasGone bank known (unit_writes (SlotIsBranch i word)) i at before after t
UnitArrives bank known unit at before after t =
    IsDone bank known (unit_writes unit) before after t

-- every instruction that can stand alone or in a delay slot is followed by its code
abbrev pub AllFollow : Type 0
AllFollow = (i : Inst) → IsInstruction i → InstructionFollows i

-- The code of a unit follows the unit's turns, wherever the code lies, from each workspace that holds the state: with at least as many turns as
-- the guest, and at most 132 for each of them.
abbrev pub UnitFollows : Unit → Type 0
UnitFollows unit =
    (site : Site) (order : Order) (bank : ℕ) (known : ℕ → Bool) (at : CodeOffset) (w : Workspace)
    (x : State)
    → IsReady site order
    → x.order ≡ order
    → LiesAt site.program site.method at (unit_code bank unit x.pc)
    → KnownByUnit known unit
    → HoldsOn bank known w x
    → Follows site at (at + size (unit_code bank unit x.pc)) (turn_count (unit_turns unit x))
    (132 * turn_count (unit_turns unit x)) (whole_weight order (unit_code bank unit x.pc))
    (UnitArrives bank known unit x.pc w) (stands site at w) (last_turn (unit_turns unit x))

-- every unit that words spell is followed by its code
abbrev pub AllUnitsFollow : Type 0
AllUnitsFollow = (unit : Unit) → IsLawful unit → UnitFollows unit
