-- What happens when each word of a range of code is entered with no branch pending. MIPS II: the instruction after a branch or
-- jump stands in its delay slot, and is done before the program goes to the target; where a likely branch is not taken, it is not
-- done.
use Rattle.std.specs.Prelude.{ℕ, Bool, true, false, not, IsTrue, List, [], ◌∷◌, if◌then◌else◌}
use Rattle.std.specs.List.{list_all}
use Rattle.mips_definition.specs.Table.{inst, is_float}
use Rattle.mips_definition.specs.Effect.{break_fault, reserved_fault}
use Rattle.mips_definition.specs.declared.inst.Inst.{Inst}
use Rattle.mips_definition.specs.declared.inst.Inst.TheVariants.{JumpRegister, JumpAndLinkRegister, Syscall, Break, BranchSign, Jump, BranchEqual, BranchZero, Reserved}
use Rattle.delay_slots.specs.declared.unit.Unit.{Unit}
use Rattle.delay_slots.specs.declared.unit.Unit.TheVariants.{Plain, Branch, SlotMissing, SlotIsBranch, Call, Trap}

-- a branch or jump, which has a delay slot
abbrev pub is_branch : Inst → Bool
is_branch (JumpRegister rs) = true
is_branch (JumpAndLinkRegister rs rd) = true
is_branch (BranchSign name rs imm) = true
is_branch (Jump name index) = true
is_branch (BranchEqual name rs rt imm) = true
is_branch (BranchZero name rs imm) = true
is_branch _ = false

-- a branch or jump, before the words that follow it in its range: the first of them stands in its delay slot
abbrev pub branch_unit : Inst → List ℕ → Unit
branch_unit branch [] = SlotMissing branch
branch_unit branch (word ∷ words) = if is_branch (inst word) then SlotIsBranch branch word
    else Branch branch (inst word)

-- an instruction, before the words that follow it in its range; no range that is translated has a floating-point word
abbrev pub unit_of : Inst → List ℕ → Unit
unit_of (Syscall code) words = Call
unit_of (Break code) words = Trap break_fault code
unit_of (Reserved word) words = Trap reserved_fault word
unit_of other words = if is_branch other then branch_unit other words else Plain other

-- one unit a word
abbrev pub units_of : List ℕ → List Unit
units_of [] = []
units_of (word ∷ words) = unit_of (inst word) words ∷ units_of words

-- ---- the words that have units

-- no word is one of the floating-point coprocessor
abbrev pub HasNoFloat : List ℕ → Type 0
HasNoFloat words = IsTrue (list_all (λ word. not (is_float word)) words)
