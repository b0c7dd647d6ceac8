-- The code of branches and jumps, up to behind their delay slots. Before the code of the slot a branch pushes what it compares, and a jump by a
-- register where it goes: the way from the unit takes that. A likely branch puts where the guest goes into field pc and local variable 0.
use Rattle.std.specs.Prelude.{ℕ, ◌+◌, ◌%◌, ◌^◌, Bool, if◌then◌else◌, List, [], ◌∷◌, ◌++◌, length, Option, Some, None}
use Rattle.mips_definition.specs.Targets.{branch_target}
use Rattle.mips_definition.specs.Branches.{equal_likely, zero_likely, sign_likely}
use Rattle.mips_definition.specs.declared.names.branch_equal_name.BranchEqualName.{BranchEqualName}
use Rattle.mips_definition.specs.declared.names.branch_equal_name.BranchEqualName.TheVariants.{Beq, Bne, Beql, Bnel}
use Rattle.mips_definition.specs.declared.names.branch_zero_name.BranchZeroName.{BranchZeroName}
use Rattle.mips_definition.specs.declared.names.branch_zero_name.BranchZeroName.TheVariants.{Blez, Bgtz, Blezl, Bgtzl}
use Rattle.mips_definition.specs.declared.names.branch_sign_name.BranchSignName.{BranchSignName}
use Rattle.mips_definition.specs.declared.names.branch_sign_name.BranchSignName.TheVariants.{Bltz, Bgez, Bltzal, Bgezal, Bltzl, Bgezl, Bltzall, Bgezall}
use Rattle.mips_definition.specs.declared.names.jump_name.JumpName.{JumpName}
use Rattle.mips_definition.specs.declared.names.jump_name.JumpName.TheVariants.{J, Jal}
use Rattle.mips_definition.specs.declared.inst.Inst.{Inst}
use Rattle.mips_definition.specs.declared.inst.Inst.TheVariants as inst
use Rattle.delay_slots.specs.Places.{Address}
use Rattle.jvm_definition.specs.declared.stack_name.StackName.TheVariants.{Dup}
use Rattle.jvm_definition.specs.declared.branch_name.BranchName.{BranchName}
use Rattle.jvm_definition.specs.declared.branch_name.BranchName.TheVariants.{Iflt, Ifge, Ifgt, Ifle, IfIcmpeq, IfIcmpne, Goto}
use Rattle.jvm_definition.specs.declared.local_kind.LocalKind.TheVariants as local_kinds
use Rattle.jvm_definition.specs.declared.instruction.Instruction.TheVariants.{Nop, Stack, Store}
use Rattle.emit_steps.specs.declared.step.Step.{Step}
use Rattle.emit_steps.specs.declared.step.Step.TheVariants.{Does, Skips}
use Rattle.emit_layout.specs.FieldNumbers.{pc_field}
use Rattle.emit_instructions.specs.Access.{push_word, put_field, get_register, put_register}

-- the address that is on the stack is where the guest goes
abbrev pub settle_code : List Step
settle_code = Does (Stack Dup) ∷ Does (Store local_kinds.Int 0) ∷ put_field pc_field ∷ []

abbrev pub goes_to_code : Address → List Step
goes_to_code target = push_word target ∷ settle_code

-- the address behind the delay slot, which is also the link
abbrev pub behind_slot : Address → Address
behind_slot at = (at + 8) % 2 ^ 32

abbrev pub link_code : ℕ → Option ℕ → Address → List Step
link_code bank None at = []
link_code bank (Some r) at = push_word (behind_slot at) ∷ put_register bank r ∷ []

-- ---- conditions: what is pushed, and the test that is passed where the branch is taken

abbrev pub equal_test : BranchEqualName → BranchName
equal_test Beq = IfIcmpeq
equal_test Bne = IfIcmpne
equal_test Beql = IfIcmpeq
equal_test Bnel = IfIcmpne

abbrev pub zero_test : BranchZeroName → BranchName
zero_test Blez = Ifle
zero_test Bgtz = Ifgt
zero_test Blezl = Ifle
zero_test Bgtzl = Ifgt

abbrev pub sign_test : BranchSignName → BranchName
sign_test Bltz = Iflt
sign_test Bgez = Ifge
sign_test Bltzal = Iflt
sign_test Bgezal = Ifge
sign_test Bltzl = Iflt
sign_test Bgezl = Ifge
sign_test Bltzall = Iflt
sign_test Bgezall = Ifge

abbrev pub sign_link : BranchSignName → Option ℕ
sign_link Bltzal = Some 31
sign_link Bgezal = Some 31
sign_link Bltzall = Some 31
sign_link Bgezall = Some 31
sign_link name = None

abbrev pub jump_link : JumpName → Option ℕ
jump_link J = None
jump_link Jal = Some 31

-- ---- branches with the code of their delay slots

-- a likely branch that is not taken passes its slot over: a goal has four steps
abbrev pub likely_code : BranchName → Address → Address → List Step → List Step → List Step
likely_code test target behind link slot =
    Skips test (5 + length link) ∷ (goes_to_code behind ++ link
    ++ Skips Goto (4 + length link + length slot) ∷ (goes_to_code target ++ link ++ slot))

abbrev pub conditional_code : Bool → BranchName → Address → Address → List Step → List Step
    → List Step
conditional_code likely test target behind link slot =
    if likely then likely_code test target behind link slot else link ++ slot

-- A branch or jump at an address, before the code of its slot; every other instruction has no such code. One that pushes nothing has an
-- instruction in any case, as it is a turn of the guest.
abbrev pub transfer_code : ℕ → Inst → Address → List Step → List Step
transfer_code bank (inst.BranchEqual name rs rt imm) at slot =
    get_register bank rs ∷ get_register bank rt
    ∷ conditional_code (equal_likely name) (equal_test name) (branch_target at imm) (behind_slot at)
    [] slot
transfer_code bank (inst.BranchZero name rs imm) at slot =
    get_register bank rs ∷ conditional_code (zero_likely name) (zero_test name)
    (branch_target at imm) (behind_slot at) [] slot
transfer_code bank (inst.BranchSign name rs imm) at slot =
    get_register bank rs
    ∷ conditional_code (sign_likely name) (sign_test name) (branch_target at imm) (behind_slot at)
    (link_code bank (sign_link name) at) slot
transfer_code bank (inst.Jump name index) at slot =
    Does Nop ∷ (link_code bank (jump_link name) at ++ slot)
transfer_code bank (inst.JumpRegister rs) at slot = get_register bank rs ∷ slot
transfer_code bank (inst.JumpAndLinkRegister rs rd) at slot =
    get_register bank rs ∷ (link_code bank (Some rd) at ++ slot)
transfer_code bank other at slot = slot
