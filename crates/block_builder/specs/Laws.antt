-- What holds of the registers of every instruction.
use Rattle.std.specs.Prelude.{◌≡◌, ℕ, ◌<◌, ◌↔◌, Any, List}
use Rattle.std.specs.Int.{IsBitSet}
use Rattle.mips_definition.specs.State.{State}
use Rattle.mips_definition.specs.declared.inst.Inst.{Inst}
use Rattle.delay_slots.specs.Turns.{done}
use Rattle.block_builder.specs.Registers.{Register, bit_number, read_by, register_set, written_by}
use Rattle.block_builder.specs.Dependence.{AgreeOn, ChangesOnly, GoAlike}

-- an instruction changes only the registers that it writes
abbrev pub InstructionsChangeWhatTheyWrite : Type 0
InstructionsChangeWhatTheyWrite = (i : Inst) (s : State) → ChangesOnly (written_by i) s (done i s)

-- in states that differ at most in other registers than it reads, it does the same
abbrev pub InstructionsGoByWhatTheyRead : Type 0
InstructionsGoByWhatTheyRead =
    (i : Inst) (s t : State)
    → AgreeOn (read_by i) s t
    → GoAlike (written_by i) (done i s) (done i t)

-- a set of registers has the bits of its registers, but for register 0, and no others
abbrev pub SetsHaveTheirBits : Type 0
SetsHaveTheirBits =
    (registers : List Register) (k : ℕ)
    → IsBitSet (register_set registers) k ↔ ((0 < k) × Any (λ r. bit_number r ≡ k) registers)
