-- What an instruction's effect depends on, and what it changes, among the registers.
use Rattle.std.specs.Prelude.{◌≡◌, ◌≢◌, ℕ, List, ⊤}
use Rattle.std.specs.List.{AllByRecursion}
use Rattle.run_definition.specs.Answer.{Answer}
use Rattle.run_definition.specs.Turn.{Turn, moves, ends, leaves, asks}
use Rattle.mips_definition.specs.State.{State, register}
use Rattle.mips_definition.specs.declared.names.hi_lo.HiLo.TheVariants.{Hi, Lo}
use Rattle.block_builder.specs.Registers.{Register, general, special}

-- what a register holds
abbrev pub held : State → Register → ℕ
held s (general r) = register s r
held s (special Hi) = s.hi
held s (special Lo) = s.lo

-- Two states differ at most in registers, and hold the same in these.
pub record AgreeOn (registers : List Register) (s t : State) : Type 0 where
  pub others : t ≡ record s { registers = t.registers; hi = t.hi; lo = t.lo }
  pub same : AllByRecursion (λ r. held t r ≡ held s r) registers

-- each register but these holds what it held
abbrev pub KeepsOthers : List Register → State → State → Type 0
KeepsOthers changed s t = (r : Register) → AllByRecursion (λ c. c ≢ r) changed → held t r ≡ held s r

-- each state that a turn leads to, whatever the answer, holds what it held in each register but these
abbrev pub ChangesOnly : List Register → State → Turn State → Type 0
ChangesOnly changed s (moves t) = KeepsOthers changed s t
ChangesOnly changed s (ends end) = ⊤
ChangesOnly changed s (leaves question end) = ⊤
ChangesOnly changed s (asks question next) = (answer : Answer) → KeepsOthers changed s (next answer)

-- two turns go on, end, leave or ask alike, and lead to states that agree on these registers
abbrev pub GoAlike : List Register → Turn State → Turn State → Type 0
GoAlike changed (moves s) (moves t) = AgreeOn changed s t
GoAlike changed (ends end) (ends other) = end ≡ other
GoAlike changed (leaves question end) (leaves other_question other) =
    (question ≡ other_question) × (end ≡ other)
GoAlike changed (asks question next) (asks other_question other) =
    (question ≡ other_question) × ((answer : Answer) → AgreeOn changed (next answer) (other answer))
GoAlike changed _ _ = ⊥
