-- The form of a guard: the parts of which its code is made, on which its bytes, its constants and its marks rest.
use Rattle.std.proofs.Common.{◌≡◌, ℕ, List, [], ◌∷◌, ◌++◌, map, Option, Some, None, refl}
use Rattle.mips_definition.specs.Branches.{equal_likely, zero_likely, sign_likely}
use Rattle.mips_definition.specs.declared.inst.Inst.{Inst}
use Rattle.mips_definition.specs.declared.inst.Inst.TheVariants as inst
use Rattle.delay_slots.specs.declared.unit.Unit.{Unit}
use Rattle.delay_slots.specs.declared.unit.Unit.TheVariants.{Plain, Branch, SlotMissing, SlotIsBranch, Call, Trap}
use Rattle.jvm_definition.specs.declared.branch_name.BranchName.{BranchName}
use Rattle.jvm_definition.specs.declared.branch_name.BranchName.TheVariants.{IfIcmpge, Goto}
use Rattle.jvm_definition.specs.declared.int_arithmetic.IntArithmetic.TheVariants.{Isub}
use Rattle.jvm_definition.specs.declared.constant.Constant.TheVariants as constants
use Rattle.jvm_definition.specs.declared.kind.Kind.TheVariants as kinds
use Rattle.jvm_definition.specs.declared.instruction.Instruction.TheVariants.{Push, Get, Put, IntArithmetic, FaultHost}
use Rattle.emit_instructions.specs.Branching.{equal_test, zero_test, sign_test}
use Rattle.emit_instructions.proofs.Forms.{Part, Acts, Word, Reads, step_of, Form, Straight, Both, code_of}
use Rattle.emit_instructions.proofs.InstructionForms.{passes}
use Rattle.meter.specs.Guards.{left_field, spent_kind, likely_test, branch_guard, transfer_guard, guard_code}

-- only the address may be any word
abbrev pub counted_parts : ℕ → ℕ → List Part
counted_parts turns at =
    Acts (Get left_field kinds.Int) ∷ Acts (Push (constants.Int turns)) ∷ passes IfIcmpge 4
    ∷ Acts (Push (constants.Int spent_kind)) ∷ Word at ∷ Acts (Push (constants.Int 0)) ∷ Acts FaultHost
    ∷ Acts (Get left_field kinds.Int) ∷ Acts (Push (constants.Int turns)) ∷ Acts (IntArithmetic Isub) ∷ Acts (Put left_field kinds.Int) ∷ []

abbrev pub likely_parts : BranchName → ℕ → List Part
likely_parts test at = passes test 12 ∷ (counted_parts 1 at ++ passes Goto 11 ∷ counted_parts 2 at)

abbrev pub branch_form : Option BranchName → List Part → ℕ → Form
branch_form None pushed at = Straight (counted_parts 2 at)
branch_form (Some test) pushed at = Both (Straight pushed) (Straight (likely_parts test at))

abbrev pub transfer_form : Inst → ℕ → Form
transfer_form (inst.BranchEqual name rs rt imm) at =
    branch_form (likely_test (equal_likely name) (equal_test name)) (Reads rs ∷ Reads rt ∷ []) at
transfer_form (inst.BranchZero name rs imm) at = branch_form (likely_test (zero_likely name) (zero_test name)) (Reads rs ∷ []) at
transfer_form (inst.BranchSign name rs imm) at = branch_form (likely_test (sign_likely name) (sign_test name)) (Reads rs ∷ []) at
transfer_form other at = Straight (counted_parts 2 at)

abbrev pub guard_form : Unit → ℕ → Form
guard_form (Plain i) at = Straight (counted_parts 1 at)
guard_form (Branch i slot) at = transfer_form i at
guard_form (SlotMissing i) at = transfer_form i at
guard_form (SlotIsBranch i word) at = transfer_form i at
guard_form Call at = Straight (counted_parts 1 at)
guard_form (Trap kind value) at = Straight (counted_parts 1 at)

branch-is : (likely : Option BranchName) (pushed : List Part) (at : ℕ)
    → branch_guard likely (map (step_of 0) pushed) at ≡ code_of 0 (branch_form likely pushed at)
branch-is None pushed at = refl
branch-is (Some test) pushed at = refl

transfer-is : (i : Inst) (at : ℕ) → transfer_guard i at ≡ code_of 0 (transfer_form i at)
transfer-is (inst.BranchEqual name rs rt imm) at = branch-is (likely_test (equal_likely name) (equal_test name)) (Reads rs ∷ Reads rt ∷ []) at
transfer-is (inst.BranchZero name rs imm) at = branch-is (likely_test (zero_likely name) (zero_test name)) (Reads rs ∷ []) at
transfer-is (inst.BranchSign name rs imm) at = branch-is (likely_test (sign_likely name) (sign_test name)) (Reads rs ∷ []) at
transfer-is other at = refl

pub guard-is : (unit : Unit) (at : ℕ) → guard_code unit at ≡ code_of 0 (guard_form unit at)
guard-is (Plain i) at = refl
guard-is (Branch i slot) at = transfer-is i at
guard-is (SlotMissing i) at = transfer-is i at
guard-is (SlotIsBranch i word) at = transfer-is i at
guard-is Call at = refl
guard-is (Trap kind value) at = refl
