-- Where code goes behind a unit, inside the method of a span. A step that leaves names the address of a word of the span, whose code is
-- found once all code is laid down.
use Rattle.std.specs.Prelude.{◌%◌, Bool, ◌&&◌, ◌||◌, false, ◌==◌, nat_le, nat_lt, if◌then◌else◌, List, [], ◌∷◌, ◌++◌, length, Option, Some, None}
use Rattle.mips_definition.specs.Branches.{equal_likely, zero_likely, sign_likely}
use Rattle.mips_definition.specs.declared.inst.Inst.{Inst}
use Rattle.mips_definition.specs.declared.inst.Inst.TheVariants as inst
use Rattle.mips_definition.specs.Targets.{branch_target, jump_target}
use Rattle.delay_slots.specs.declared.unit.Unit.{Unit}
use Rattle.delay_slots.specs.declared.unit.Unit.TheVariants.{Plain, Branch, SlotMissing, SlotIsBranch, Call, Trap}
use Rattle.delay_slots.specs.Places.{Address}
use Rattle.jvm_definition.specs.declared.branch_name.BranchName.{BranchName}
use Rattle.jvm_definition.specs.declared.branch_name.BranchName.TheVariants.{Iflt, Ifge, Ifgt, Ifle, IfIcmpeq, IfIcmpne}
use Rattle.jvm_definition.specs.declared.local_kind.LocalKind.TheVariants as local_kinds
use Rattle.jvm_definition.specs.declared.instruction.Instruction.TheVariants as instructions
use Rattle.emit_steps.specs.Returning.{returns}
use Rattle.emit_steps.specs.declared.step.Step.{Step}
use Rattle.emit_steps.specs.declared.step.Step.TheVariants.{Does, Skips, Leaves}
use Rattle.emit_layout.specs.FieldNumbers.{pc_field}
use Rattle.emit_instructions.specs.Access.{push_word, put_field}
use Rattle.emit_instructions.specs.Branching.{behind_slot, equal_test, zero_test, sign_test}
use Rattle.emit_instructions.specs.Units.{next_address}
use Rattle.word_emitter.specs.declared.extent.Extent.{Extent}
use Rattle.word_emitter.specs.Pieces.{is_likely}

-- a word of the span stands at an address
abbrev pub has : Extent → Address → Bool
has span address = nat_le span.first address && nat_lt address span.end
    && address % 4 == span.first % 4

-- the code of an address is directly behind, where there is one
abbrev pub follows : Option Address → Address → Bool
follows None address = false
follows (Some next) address = next == address

-- ---- to an address that is known: field pc is set where that is outside

abbrev pub go : Extent → Address → List Step
go span goal =
    if has span goal then Leaves goal ∷ [] else push_word goal ∷ put_field pc_field ∷ returns ∷ []

abbrev pub next_exit : Extent → Option Address → Address → List Step
next_exit span behind next = if follows behind next then [] else go span next

-- ---- ways from a branch: what it compares is on the stack

-- the test that is passed where the other is not
abbrev pub unless : BranchName → BranchName
unless Iflt = Ifge
unless Ifge = Iflt
unless Ifgt = Ifle
unless Ifle = Ifgt
unless IfIcmpeq = IfIcmpne
unless IfIcmpne = IfIcmpeq
unless other = other

abbrev pub chosen_ways : Extent → Option Address → BranchName → Address → Address → List Step
chosen_ways span behind test target second =
    Skips (unless test) (length (go span target)) ∷ (go span target ++ next_exit span behind second)

-- ---- ways from a likely branch: local variable 0 and field pc have the goal

abbrev pub arrive : Extent → Address → Step
arrive span goal = if has span goal then Leaves goal else returns

abbrev pub last_way : Extent → Option Address → Address → List Step
last_way span behind goal = if follows behind goal then [] else arrive span goal ∷ []

-- the goal is one of two; where none of them is inside, it is not looked at
abbrev pub two_ways : Extent → Option Address → Address → Address → List Step
two_ways span behind first second =
    if has span first || has span second
    then Does (instructions.Load local_kinds.Int 0) ∷ push_word first ∷ Skips IfIcmpne 1
    ∷ arrive span first ∷ last_way span behind second
    else returns ∷ []

abbrev pub conditional_exit : Extent → Option Address → Bool → BranchName → Address → Address
    → List Step
conditional_exit span behind likely test target second =
    if likely then two_ways span behind target second
    else chosen_ways span behind test target second

abbrev pub branch_exit : Extent → Option Address → Inst → Address → List Step
branch_exit span behind (inst.BranchSign name rs imm) at =
    conditional_exit span behind (sign_likely name) (sign_test name) (branch_target at imm)
    (behind_slot at)
branch_exit span behind (inst.BranchEqual name rs rt imm) at =
    conditional_exit span behind (equal_likely name) (equal_test name) (branch_target at imm)
    (behind_slot at)
branch_exit span behind (inst.BranchZero name rs imm) at =
    conditional_exit span behind (zero_likely name) (zero_test name) (branch_target at imm)
    (behind_slot at)
branch_exit span behind (inst.Jump name index) at = next_exit span behind (jump_target at index)
branch_exit span behind (inst.JumpRegister rs) at = put_field pc_field ∷ returns ∷ []
branch_exit span behind (inst.JumpAndLinkRegister rs rd) at = put_field pc_field ∷ returns ∷ []
branch_exit span behind other at = returns ∷ []

-- behind a branch that faults in its slot only a likely one goes on, where it is not taken
abbrev pub passing_exit : Extent → Option Address → Inst → Address → List Step
passing_exit span behind i at = if is_likely i then last_way span behind (behind_slot at)
    else returns ∷ []

-- ---- all of them

-- behind the code of a unit at an address
abbrev pub exit_code : Extent → Option Address → Unit → Address → List Step
exit_code span behind (Plain i) at = next_exit span behind (next_address at)
exit_code span behind (Branch i slot) at = branch_exit span behind i at
exit_code span behind (SlotMissing i) at = passing_exit span behind i at
exit_code span behind (SlotIsBranch i word) at = passing_exit span behind i at
exit_code span behind Call at = next_exit span behind (next_address at)
exit_code span behind (Trap kind value) at = returns ∷ []
