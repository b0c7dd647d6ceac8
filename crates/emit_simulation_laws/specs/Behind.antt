-- Where code of an instruction or a unit has come to its end, and what is known there.
use Rattle.std.specs.Prelude.{◌≡◌, ℕ, Bool, true, false, not, if◌then◌else◌, List, ◌∷◌, ◌++◌}
use Rattle.mips_definition.specs.Branches.{equal_likely, zero_likely, sign_likely}
use Rattle.mips_definition.specs.Targets.{branch_target, jump_target}
use Rattle.mips_definition.specs.declared.inst.Inst.{Inst}
use Rattle.mips_definition.specs.declared.inst.Inst.TheVariants as inst
use Rattle.delay_slots.specs.Places.{Address}
use Rattle.jvm_definition.specs.declared.branch_name.BranchName.{BranchName}
use Rattle.jvm_definition.specs.declared.value.Value.{Value}
use Rattle.jvm_definition.specs.declared.value.Value.TheVariants.{Int as int}
use Rattle.jvm_definition.specs.Effect.{Workspace, with_operands, branches, chooses}
use Rattle.mips_definition.specs.State.{State}
use Rattle.block_builder.specs.Registers.{Register}
use Rattle.emit_layout.specs.FieldNumbers.{pc_field}
use Rattle.emit_instructions.specs.Branching.{equal_test, zero_test, sign_test, behind_slot}
use Rattle.word_emitter.specs.Exits.{unless}
use Rattle.emit_simulation_laws.specs.Knowing.{gained}
use Rattle.emit_simulation_laws.specs.Holding.{HoldsOn, Keeps, KeepsFields, KeepsGoal}

-- The state is held, with the registers known that were and those that were written, and the bank's fields and the operands are left alone.
pub record IsHeld (bank : ℕ) (known : ℕ → Bool) (written : List Register) (before after : Workspace)
    (t : State) : Type 0 where
  pub held : HoldsOn bank (gained written known) after t
  pub kept : Keeps bank before after

-- behind an instruction that is no branch, what a branch before it has put down is still there
pub record IsDone (bank : ℕ) (known : ℕ → Bool) (written : List Register) (before after : Workspace)
    (t : State) : Type 0 where
  pub state : IsHeld bank known written before after t
  pub goal : KeepsGoal before after

-- ---- where a branch says its goal

-- Field pc and local variable 0 say it, and the operands are left alone.
pub record IsSettled (before after : Workspace) (goal : Address) : Type 0 where
  pub operands_kept : after.operands ≡ before.operands
  pub field_is : after.fields pc_field ≡ int goal
  pub local_is : after.locals 0 ≡ int goal

-- What is compared is above the operands: the other test, whatever is below, is passed where the branch is not taken.
pub record IsCompared (test : BranchName) (target behind : Address) (before after : Workspace)
    (goal : Address) : Type 0 where
  pub values : List Value
  pub operands_are : after.operands ≡ values ++ before.operands
  pub taken : Bool
  pub fails : (w : Workspace) (rest : List Value)
      → branches (unless test) (with_operands w (values ++ rest))
      ≡ chooses (not taken) (with_operands w (values ++ rest)) rest
  pub goal_is : goal ≡ (if taken then target else behind)

-- a likely branch settles its goal, and another one leaves what it compares
abbrev pub ConditionalGoal : Bool → BranchName → Address → Address → Workspace → Workspace → Address
    → Type 0
ConditionalGoal true test target behind before after goal = IsSettled before after goal
ConditionalGoal false test target behind before after goal =
    IsCompared test target behind before after goal

-- A jump goes to its target, and one by a register to the address that is above the operands.
abbrev pub SaysGoal : Inst → Address → Workspace → Workspace → Address → Type 0
SaysGoal (inst.BranchSign name rs imm) at before after goal =
    ConditionalGoal (sign_likely name) (sign_test name) (branch_target at imm) (behind_slot at)
    before after goal
SaysGoal (inst.BranchEqual name rs rt imm) at before after goal =
    ConditionalGoal (equal_likely name) (equal_test name) (branch_target at imm) (behind_slot at)
    before after goal
SaysGoal (inst.BranchZero name rs imm) at before after goal =
    ConditionalGoal (zero_likely name) (zero_test name) (branch_target at imm) (behind_slot at)
    before after goal
SaysGoal (inst.Jump name index) at before after goal =
    (after.operands ≡ before.operands) × (goal ≡ jump_target at index)
SaysGoal (inst.JumpRegister rs) at before after goal =
    after.operands ≡ int goal ∷ before.operands
SaysGoal (inst.JumpAndLinkRegister rs rd) at before after goal =
    after.operands ≡ int goal ∷ before.operands
SaysGoal _ at before after goal = ⊥

-- Behind a branch at an address the state is held, and its goal is said.
pub record HasGone (bank : ℕ) (known : ℕ → Bool) (written : List Register) (i : Inst) (at : Address)
    (before after : Workspace) (t : State) : Type 0 where
  pub held : HoldsOn bank (gained written known) after t
  pub fields_kept : KeepsFields bank before after
  pub goal : SaysGoal i at before after t.pc
