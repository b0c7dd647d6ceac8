-- The form of the code of branches and jumps, and of each unit.
use Rattle.std.proofs.Common.{◌≡◌, ℕ, ◌+◌, ◌≤◌, Bool, true, false, List, [], ◌∷◌, ◌++◌, length, Option, Some, None, refl, ap, ◌∙◌, arith}
use Rattle.mips_definition.specs.Branches.{equal_likely, zero_likely, sign_likely}
use Rattle.mips_definition.specs.Effect.{fetch_fault, branch_in_slot_fault}
use Rattle.mips_definition.specs.Targets.{branch_target}
use Rattle.mips_definition.specs.declared.names.branch_equal_name.BranchEqualName.TheVariants.{Beq}
use Rattle.mips_definition.specs.declared.names.branch_zero_name.BranchZeroName.TheVariants.{Blez}
use Rattle.mips_definition.specs.declared.names.branch_sign_name.BranchSignName.TheVariants.{Bltz}
use Rattle.mips_definition.specs.declared.names.jump_name.JumpName.TheVariants.{J}
use Rattle.mips_definition.specs.declared.inst.Inst.{Inst}
use Rattle.mips_definition.specs.declared.inst.Inst.TheVariants as inst
use Rattle.delay_slots.specs.declared.unit.Unit.{Unit}
use Rattle.delay_slots.specs.declared.unit.Unit.TheVariants.{Plain, Branch, SlotMissing, SlotIsBranch, Call, Trap}
use Rattle.jvm_definition.specs.declared.stack_name.StackName.TheVariants.{Dup}
use Rattle.jvm_definition.specs.declared.branch_name.BranchName.{BranchName}
use Rattle.jvm_definition.specs.declared.branch_name.BranchName.TheVariants.{Goto}
use Rattle.jvm_definition.specs.declared.kind.Kind.TheVariants as kinds
use Rattle.jvm_definition.specs.declared.local_kind.LocalKind.TheVariants as local_kinds
use Rattle.jvm_definition.specs.declared.instruction.Instruction.TheVariants.{Nop, Stack, Store, Put}
use Rattle.emit_layout.specs.FieldNumbers.{pc_field}
use Rattle.emit_instructions.specs.Branching.{behind_slot, equal_test, zero_test, sign_test, sign_link, jump_link, transfer_code}
use Rattle.emit_instructions.specs.Units.{unit_code, next_address}
use Rattle.emit_instructions.proofs.Forms.{Part, Acts, Passes, Word, Reads, Writes, Form, Straight, Both, code_of, Weights, most, form-weighs}
use Rattle.emit_instructions.proofs.InstructionForms.{passes, fault_form, any_fault_form, call_form, instruction_form, instruction-is}

-- ---- branches and jumps

abbrev settles : List Part
settles = Acts (Stack Dup) ∷ Acts (Store local_kinds.Int 0) ∷ Acts (Put pc_field kinds.Int) ∷ []

abbrev link_parts : Option ℕ → ℕ → List Part
link_parts None at = []
link_parts (Some r) at = Word (behind_slot at) ∷ Writes r ∷ []

-- likely or not
abbrev conditional : Bool → BranchName → ℕ → ℕ → List Part → Form → Form
conditional true test target behind link slot =
    let over = Passes Goto (λ bank. 4 + length link + length (code_of bank slot)) in
    Both (Straight (passes test (5 + length link) ∷ Word behind ∷ settles ++ link ++ over ∷ Word target ∷ settles ++ link)) slot
conditional false test target behind link slot = Both (Straight link) slot

abbrev pub transfer_form : Inst → ℕ → Form → Form
transfer_form (inst.BranchEqual name rs rt imm) at slot =
    Both (Straight (Reads rs ∷ Reads rt ∷ []))
    (conditional (equal_likely name) (equal_test name) (branch_target at imm) (behind_slot at) [] slot)
transfer_form (inst.BranchZero name rs imm) at slot =
    Both (Straight (Reads rs ∷ [])) (conditional (zero_likely name) (zero_test name) (branch_target at imm) (behind_slot at) [] slot)
transfer_form (inst.BranchSign name rs imm) at slot =
    Both (Straight (Reads rs ∷ []))
    (conditional (sign_likely name) (sign_test name) (branch_target at imm) (behind_slot at) (link_parts (sign_link name) at) slot)
transfer_form (inst.Jump name index) at slot = Both (Straight (Acts Nop ∷ link_parts (jump_link name) at)) slot
transfer_form (inst.JumpRegister rs) at slot = Both (Straight (Reads rs ∷ [])) slot
transfer_form (inst.JumpAndLinkRegister rs rd) at slot = Both (Straight (Reads rs ∷ link_parts (Some rd) at)) slot
transfer_form other at slot = slot

transfer-is : (bank : ℕ) (i : Inst) (at : ℕ) (slot : Form)
    → transfer_code bank i at (code_of bank slot) ≡ code_of bank (transfer_form i at slot)
transfer-is bank (inst.BranchEqual Beq rs rt imm) at slot = refl
transfer-is bank (inst.BranchZero Blez rs imm) at slot = refl
transfer-is bank (inst.BranchSign Bltz rs imm) at slot = refl
transfer-is bank (inst.Jump J index) at slot = refl
transfer-is bank other at slot = refl

-- ---- units

abbrev pub unit_form : Unit → ℕ → Form
unit_form (Plain i) at = instruction_form i at
unit_form (Branch i slot) at = transfer_form i at (instruction_form slot (next_address at))
unit_form (SlotMissing i) at = transfer_form i at (fault_form fetch_fault (next_address at) (next_address at))
unit_form (SlotIsBranch i word) at = transfer_form i at (fault_form branch_in_slot_fault (next_address at) word)
unit_form Call at = call_form
unit_form (Trap kind value) at = any_fault_form kind at value

pub unit-is : (bank : ℕ) (unit : Unit) (at : ℕ) → unit_code bank unit at ≡ code_of bank (unit_form unit at)
unit-is bank (Plain i) at = instruction-is bank i at
unit-is bank (Branch i slot) at =
    ap (transfer_code bank i at) (instruction-is bank slot (next_address at))
    ∙ transfer-is bank i at (instruction_form slot (next_address at))
unit-is bank (SlotMissing i) at = transfer-is bank i at (fault_form fetch_fault (next_address at) (next_address at))
unit-is bank (SlotIsBranch i word) at = transfer-is bank i at (fault_form branch_in_slot_fault (next_address at) word)
unit-is bank Call at = refl
unit-is bank (Trap kind value) at = refl

pub unit-weighs : (w : Weights) (bank : ℕ) (unit : Unit) (at : ℕ) → w.total (unit_code bank unit at) ≤ most w (unit_form unit at)
unit-weighs w bank unit at = omega (arith, ap w.total (unit-is bank unit at), form-weighs w bank (unit_form unit at))
