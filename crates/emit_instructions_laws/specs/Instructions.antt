-- When the code of an instruction follows it.
use Rattle.std.specs.Prelude.{◌≡◌, ℕ, ◌+◌, ◌<◌, ◌≤◌, Bool, length}
use Rattle.run_definition.specs.declared.order.Order.{Order}
use Rattle.mips_definition.specs.State.{State}
use Rattle.mips_definition.specs.declared.inst.Inst.{Inst}
use Rattle.delay_slots.specs.Turns.{done}
use Rattle.block_builder.specs.Registers.{read_by, written_by}
use Rattle.jvm_definition.specs.Effect.{Workspace}
use Rattle.emit_steps.specs.Widths.{size}
use Rattle.emit_steps.specs.Offsets.{CodeOffset}
use Rattle.emit_steps.specs.Placing.{LiesAt}
use Rattle.emit_instructions.specs.Units.{instruction_code}
use Rattle.emit_simulation_laws.specs.Knowing.{AreKnown, HasFields}
use Rattle.emit_simulation_laws.specs.Helpers.{HasHelpers, helper_count}
use Rattle.emit_simulation_laws.specs.Holding.{HoldsOn}
use Rattle.emit_simulation_laws.specs.Sites.{Site, stands, whole_weight}
use Rattle.emit_simulation_laws.specs.Following.{Follows}
use Rattle.emit_simulation_laws.specs.Behind.{IsDone}

-- A site in a program that has the helper methods for an order of bytes: its method is none of them, and they find room for their frames.
pub record IsReady (site : Site) (order : Order) : Type 0 where
  pub helpers : HasHelpers site.program order
  pub no_helper : helper_count ≤ site.method
  pub few : length site.others < 62

-- at most so many turns for an instruction alone or in a delay slot, those of the methods that it calls included
abbrev pub most_turns : ℕ
most_turns = 132

-- The code of an instruction that is no branch follows it, wherever the code lies, alone or in a delay slot, from each workspace that holds the
-- state and knows what the instruction reads.
abbrev pub InstructionFollows : Inst → Type 0
InstructionFollows i =
    (site : Site) (order : Order) (bank : ℕ) (known : ℕ → Bool) (at : CodeOffset) (w : Workspace)
    (s : State)
    → IsReady site order
    → s.order ≡ order
    → LiesAt site.program site.method at (instruction_code bank i s.pc)
    → HasFields i
    → AreKnown known (read_by i)
    → HoldsOn bank known w s
    → Follows site at (at + size (instruction_code bank i s.pc)) 1 most_turns
    (whole_weight order (instruction_code bank i s.pc)) (IsDone bank known (written_by i) w)
    (stands site at w) (done i s)
