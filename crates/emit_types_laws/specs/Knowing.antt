-- The types of code over a bank of registers, by which of them are known.
use Rattle.std.specs.Prelude.{◌≡◌, ℕ, ◌==◌, ◌<◌, ◌≤◌, Bool, true, ◌&&◌, ◌||◌, nat_lt, if◌then◌else◌, List, [], ◌∷◌, ◌++◌, Option, All}
use Rattle.mips_definition.specs.Branches.{equal_likely, zero_likely, sign_likely}
use Rattle.mips_definition.specs.declared.inst.Inst.{Inst}
use Rattle.mips_definition.specs.declared.inst.Inst.TheVariants as inst
use Rattle.delay_slots.specs.declared.unit.Unit.{Unit}
use Rattle.delay_slots.specs.declared.unit.Unit.TheVariants as units
use Rattle.delay_slots.specs.Places.{Address}
use Rattle.block_builder.specs.Leaders.{is_plain}
use Rattle.block_builder.specs.Registers.{read_by, written_by, unit_writes}
use Rattle.jvm_definition.specs.declared.kind.Kind.{Kind}
use Rattle.jvm_definition.specs.declared.kind.Kind.TheVariants.{Top, Int}
use Rattle.jvm_definition.specs.Program.{Program}
use Rattle.jvm_definition.specs.Typing.{TypeFrame, with_stack}
use Rattle.emit_instructions.specs.Access.{keeps}
use Rattle.emit_instructions.specs.Units.{instruction_code, unit_code}
use Rattle.word_emitter.specs.declared.extent.Extent.{Extent}
use Rattle.word_emitter.specs.Pieces.{is_likely, warm_code}
use Rattle.word_emitter.specs.Exits.{has, exit_code}
use Rattle.meter.specs.Guards.{guard_code}
use Rattle.emit_simulation_laws.specs.Knowing.{AreKnown, gained}
use Rattle.emit_simulation_laws.specs.Lawful.{IsLawful, KnownByUnit}
use Rattle.emit_simulation_laws.specs.Helpers.{helper_parameters, helper_count}
use Rattle.emit_types_laws.specs.Judging.{Rules, TakesGives, Leads, Meets}

-- Registers that are known and kept in local variables are ints there. Local variable 0, where the goal of a branch is put, has a type of
-- its own.
abbrev pub knowing : ℕ → (ℕ → Bool) → Kind → TypeFrame
knowing bank known goal =
    record {
      locals = λ k. if k == 0 then goal else if keeps bank k && known k then Int
          else Top;
      stack = [];
    }

-- the helpers that load or store conditionally give an int, and so does the method that ends the run for them
abbrev pub helper_gives : ℕ → Bool
helper_gives number = nat_lt number 7 || number == 16 || number == 17 || number == 18

-- the first methods of a program take and give what helpers do
abbrev pub HelperTypes : Program → Type 0
HelperTypes program = (number : ℕ) → number < helper_count
    → TakesGives program number (helper_parameters number) (helper_gives number)

-- The code of an instruction is typed: what it reads is known before, and what it writes behind it. The goal of a branch is left alone.
abbrev pub InstructionTyped : Inst → Type 0
InstructionTyped i =
    (rules : Rules) (bank : ℕ) (known : ℕ → Bool) (goal : Kind) (at : Address)
    → HelperTypes rules.program
    → AreKnown known (read_by i)
    → Leads rules (instruction_code bank i at) (knowing bank known goal)
    (knowing bank (gained (written_by i) known) goal)

-- ---- units

-- What a branch or jump leaves on the stack for the way from it: a likely one leaves nothing.
abbrev pub left_by : Inst → List Kind
left_by (inst.BranchEqual name rs rt imm) = if equal_likely name then [] else Int ∷ Int ∷ []
left_by (inst.BranchZero name rs imm) = if zero_likely name then [] else Int ∷ []
left_by (inst.BranchSign name rs imm) = if sign_likely name then [] else Int ∷ []
left_by (inst.JumpRegister rs) = Int ∷ []
left_by (inst.JumpAndLinkRegister rs rd) = Int ∷ []
left_by other = []

abbrev pub operands_behind : Unit → List Kind
operands_behind (units.Branch i slot) = left_by i
operands_behind (units.SlotMissing i) = left_by i
operands_behind (units.SlotIsBranch i word) = left_by i
operands_behind unit = []

-- behind a likely branch the goal is in local variable 0
abbrev pub goal_of : Inst → Kind → Kind
goal_of i goal = if is_likely i then Int else goal

abbrev pub goal_behind : Unit → Kind → Kind
goal_behind (units.Branch i slot) goal = goal_of i goal
goal_behind (units.SlotMissing i) goal = goal_of i goal
goal_behind (units.SlotIsBranch i word) goal = goal_of i goal
goal_behind unit goal = goal

-- The code of a unit is typed in the same way, where there is room for what a branch leaves.
abbrev pub UnitTyped : Unit → Type 0
UnitTyped unit =
    (rules : Rules) (bank : ℕ) (known : ℕ → Bool) (goal : Kind) (at : Address)
    → 2 ≤ rules.more
    → HelperTypes rules.program
    → IsLawful unit
    → KnownByUnit known unit
    → Leads rules (unit_code bank unit at) (knowing bank known goal)
    (with_stack (knowing bank (gained (unit_writes unit) known) (goal_behind unit goal))
    (operands_behind unit))

-- ---- pieces and exits

-- nothing is known of local variables
abbrev pub unknown : TypeFrame
unknown = record { locals = λ k. Top; stack = [] }

-- nothing but the goal of a likely branch
abbrev pub with_goal : Kind → TypeFrame
with_goal goal = record { locals = λ k. if k == 0 then goal else Top; stack = [] }

-- the code of each word of a span may be gone to where nothing is known
abbrev pub Opens : Rules → Extent → Type 0
Opens rules span = (at : Address) → has span at ≡ true → Meets unknown (rules.owes at)

-- where the way from a unit begins
abbrev pub at_exit : Unit → Kind → TypeFrame
at_exit unit goal = with_stack (with_goal (goal_behind unit goal)) (operands_behind unit)

-- The code of a piece over local variables, whose units but the last are Plain, is typed, and so is that of a unit over fields alone.
abbrev pub PieceTyped : List Unit → Unit → Type 0
PieceTyped units last =
    (rules : Rules) (at : Address)
    → 2 ≤ rules.more → HelperTypes rules.program
    → All (λ unit. is_plain unit ≡ true) units → All IsLawful (units ++ last ∷ [])
    → Leads rules (warm_code (units ++ last ∷ []) at) unknown (at_exit last Top)

abbrev pub WordTyped : Unit → Type 0
WordTyped unit =
    (rules : Rules) (at : Address)
    → 2 ≤ rules.more → HelperTypes rules.program → IsLawful unit
    → Leads rules (unit_code 0 unit at) unknown (at_exit unit Top)

-- The guard of a unit is typed: nothing is known of local variables before it and behind it.
abbrev pub GuardTyped : Unit → Type 0
GuardTyped unit =
    (rules : Rules) (at : Address) → Leads rules (guard_code unit at) unknown unknown

-- The exit behind a unit is typed.
abbrev pub ExitTyped : Unit → Type 0
ExitTyped unit =
    (rules : Rules) (span : Extent) (behind : Option Address) (at : Address) (goal : Kind)
    → Opens rules span
    → Leads rules (exit_code span behind unit at) (at_exit unit goal) unknown

-- A piece with the exit behind its last unit is typed, and so is a unit over fields alone with its exit: nothing is known before and behind.
abbrev pub WarmPartTyped : List Unit → Unit → Type 0
WarmPartTyped units last =
    (rules : Rules) (at : Address) (span : Extent) (behind : Option Address) (place : Address)
    → 2 ≤ rules.more → HelperTypes rules.program
    → All (λ unit. is_plain unit ≡ true) units → All IsLawful (units ++ last ∷ [])
    → Opens rules span
    → Leads rules (warm_code (units ++ last ∷ []) at
    ++ exit_code span behind last place) unknown unknown

abbrev pub ColdPartTyped : Unit → Type 0
ColdPartTyped unit =
    (rules : Rules) (at : Address) (span : Extent) (behind : Option Address)
    → 2 ≤ rules.more → HelperTypes rules.program
    → IsLawful unit → Opens rules span
    → Leads rules (unit_code 0 unit at ++ exit_code span behind unit at) unknown unknown
