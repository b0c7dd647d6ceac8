-- What stands before the code of a unit in classes with a meter: it takes the unit's turns off, or ends the run where there are not enough.
use Rattle.std.specs.Prelude.{ℕ, Bool, if◌then◌else◌, List, [], ◌∷◌, ◌++◌, Option, Some, None}
use Rattle.mips_definition.specs.Branches.{equal_likely, zero_likely, sign_likely}
use Rattle.mips_definition.specs.declared.inst.Inst.{Inst}
use Rattle.mips_definition.specs.declared.inst.Inst.TheVariants as inst
use Rattle.delay_slots.specs.declared.unit.Unit.{Unit}
use Rattle.delay_slots.specs.declared.unit.Unit.TheVariants.{Plain, Branch, SlotMissing, SlotIsBranch, Call, Trap}
use Rattle.delay_slots.specs.Places.{Address}
use Rattle.jvm_definition.specs.declared.branch_name.BranchName.{BranchName}
use Rattle.jvm_definition.specs.declared.branch_name.BranchName.TheVariants.{IfIcmpge, Goto}
use Rattle.jvm_definition.specs.declared.int_arithmetic.IntArithmetic.TheVariants.{Isub}
use Rattle.emit_steps.specs.declared.step.Step.{Step}
use Rattle.emit_steps.specs.declared.step.Step.TheVariants.{Skips}
use Rattle.emit_instructions.specs.Access.{push_word, get_field, put_field, arithmetic, get_register}
use Rattle.emit_instructions.specs.Faulting.{fault_code}
use Rattle.emit_instructions.specs.Branching.{equal_test, zero_test, sign_test}

-- the field of the turns that are left, behind those of the guest's state
abbrev pub left_field : ℕ
left_field = 38

-- the kind of the fault of a spent meter, which is none of the guest's
abbrev pub spent_kind : ℕ
spent_kind = 12

-- the meter is lowered by so many turns
abbrev pub lowering_code : ℕ → List Step
lowering_code turns =
    get_field left_field ∷ push_word turns ∷ arithmetic Isub ∷ put_field left_field ∷ []

-- so many turns are taken off, or the run ends at an address
abbrev pub counted_code : ℕ → Address → List Step
counted_code turns at =
    get_field left_field ∷ push_word turns ∷ Skips IfIcmpge 4
    ∷ (fault_code spent_kind at 0 ++ lowering_code turns)

-- by a test, which is passed where a likely branch is taken: two turns, and otherwise one
abbrev pub likely_guard : BranchName → Address → List Step
likely_guard test at =
    Skips test 12 ∷ (counted_code 1 at ++ Skips Goto 11 ∷ counted_code 2 at)

-- only a likely branch has a test to pass
abbrev pub likely_test : Bool → BranchName → Option BranchName
likely_test likely test = if likely then Some test else None

-- of a branch, with what is pushed for its test; every other one has two turns
abbrev pub branch_guard : Option BranchName → List Step → Address → List Step
branch_guard None pushed at = counted_code 2 at
branch_guard (Some test) pushed at = pushed ++ likely_guard test at

-- of a branch or jump with what stands in its delay slot
abbrev pub transfer_guard : Inst → Address → List Step
transfer_guard (inst.BranchEqual name rs rt imm) at =
    branch_guard (likely_test (equal_likely name) (equal_test name))
    (get_register 0 rs ∷ get_register 0 rt ∷ []) at
transfer_guard (inst.BranchZero name rs imm) at =
    branch_guard (likely_test (zero_likely name) (zero_test name)) (get_register 0 rs ∷ []) at
transfer_guard (inst.BranchSign name rs imm) at =
    branch_guard (likely_test (sign_likely name) (sign_test name)) (get_register 0 rs ∷ []) at
transfer_guard other at = counted_code 2 at

abbrev pub guard_code : Unit → Address → List Step
guard_code (Plain i) at = counted_code 1 at
guard_code (Branch i slot) at = transfer_guard i at
guard_code (SlotMissing i) at = transfer_guard i at
guard_code (SlotIsBranch i word) at = transfer_guard i at
guard_code Call at = counted_code 1 at
guard_code (Trap kind value) at = counted_code 1 at
