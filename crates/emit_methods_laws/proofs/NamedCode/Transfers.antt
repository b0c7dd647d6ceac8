-- The code of branches and jumps, where that of the delay slot names well.
use Rattle.std.proofs.Common.{ℕ, ◌+◌, ◌<◌, Bool, true, false, List, [], ◌∷◌, ◌++◌, length, Some, refl, arith}
use Rattle.mips_definition.specs.Branches.{equal_likely, zero_likely, sign_likely}
use Rattle.mips_definition.specs.Targets.{branch_target}
use Rattle.mips_definition.specs.declared.names.branch_sign_name.BranchSignName.{BranchSignName}
use Rattle.mips_definition.specs.declared.names.branch_sign_name.BranchSignName.TheVariants.{Bltz, Bgez, Bltzal, Bgezal, Bltzl, Bgezl, Bltzall, Bgezall}
use Rattle.mips_definition.specs.declared.names.jump_name.JumpName.{JumpName}
use Rattle.mips_definition.specs.declared.names.jump_name.JumpName.TheVariants.{J, Jal}
use Rattle.mips_definition.specs.declared.inst.Inst.{Inst}
use Rattle.mips_definition.specs.declared.inst.Inst.TheVariants as inst
use Rattle.block_builder.specs.Registers.{read_by, written_by}
use Rattle.jvm_definition.specs.declared.branch_name.BranchName.{BranchName}
use Rattle.jvm_definition.specs.declared.branch_name.BranchName.TheVariants.{Goto}
use Rattle.jvm_definition.specs.declared.instruction.Instruction.TheVariants.{Nop}
use Rattle.emit_steps.specs.declared.step.Step.{Step}
use Rattle.emit_steps.specs.declared.step.Step.TheVariants.{Does, Skips}
use Rattle.emit_instructions.specs.Access.{get_register}
use Rattle.emit_instructions.specs.Branching.{goes_to_code, behind_slot, link_code, equal_test, zero_test, sign_test, sign_link, jump_link, conditional_code, transfer_code}
use Rattle.emit_simulation_laws.specs.Knowing.{AreNumbers}
use Rattle.emit_methods_laws.specs.Naming.{is_helper}
use Rattle.emit_methods_laws.proofs.NamedCode.Steps.{Well, StepWell, well-append, get-well, put-well}

module _ (class : ℕ) (gives : Bool) (bank at : ℕ) (slot : List Step) (slot_is : Well is_helper class gives slot) where
  abbrev Named : List Step → Type 0
  Named code = Well is_helper class gives code

  joined : (xs ys : List Step) → Named xs → Named ys → Named (xs ++ ys)
  joined xs ys h k = well-append is_helper class gives xs ys h k

  get : (r : ℕ) → r < 32 → StepWell is_helper class gives (get_register bank r)
  get r h = get-well is_helper class gives bank r h

  one : (r : ℕ) → r < 32 → Named (get_register bank r ∷ [])
  one r h = rw (get r h) refl

  two : (r s : ℕ) → r < 32 → s < 32 → Named (get_register bank r ∷ get_register bank s ∷ [])
  two r s h k = rw (get r h, get s k) refl

  -- ---- parts

  link-some : (r : ℕ) → r < 32 → Named (link_code bank (Some r) at)
  link-some r h = rw (put-well is_helper class gives bank r h) refl

  -- a part, the link and the slot
  then-slot : (part link : List Step) → Named part → Named link → Named (part ++ link ++ slot)
  then-slot part link h k = joined (part ++ link) slot (joined part link h k) slot_is

  conditional : (likely : Bool) (test : BranchName) (target behind : ℕ) (link : List Step) → Named link
      → Named (conditional_code likely test target behind link slot)
  conditional false test target behind link h = joined link slot h slot_is
  conditional true test target behind link h =
      joined (goes_to_code behind ++ link) (Skips Goto (4 + length link + length slot) ∷ (goes_to_code target ++ link ++ slot))
      (joined (goes_to_code behind) link refl h) (then-slot (goes_to_code target) link refl h)

  sign-links : (name : BranchSignName) → Named (link_code bank (sign_link name) at)
  sign-links Bltz = refl
  sign-links Bgez = refl
  sign-links Bltzal = link-some 31 (omega arith)
  sign-links Bgezal = link-some 31 (omega arith)
  sign-links Bltzl = refl
  sign-links Bgezl = refl
  sign-links Bltzall = link-some 31 (omega arith)
  sign-links Bgezall = link-some 31 (omega arith)

  jump-links : (name : JumpName) → Named (link_code bank (jump_link name) at)
  jump-links J = refl
  jump-links Jal = link-some 31 (omega arith)

  -- ---- all of them

  pub transfer-well : (i : Inst) → AreNumbers (read_by i) → AreNumbers (written_by i) → Named (transfer_code bank i at slot)
  transfer-well (inst.BranchEqual name rs rt imm) reads writes =
      joined (get_register bank rs ∷ get_register bank rt ∷ [])
      (conditional_code (equal_likely name) (equal_test name) (branch_target at imm) (behind_slot at) [] slot) (two rs rt reads.0 reads.1.0)
      (conditional (equal_likely name) (equal_test name) (branch_target at imm) (behind_slot at) [] refl)
  transfer-well (inst.BranchZero name rs imm) reads writes =
      joined (get_register bank rs ∷ [])
      (conditional_code (zero_likely name) (zero_test name) (branch_target at imm) (behind_slot at) [] slot) (one rs reads.0)
      (conditional (zero_likely name) (zero_test name) (branch_target at imm) (behind_slot at) [] refl)
  transfer-well (inst.BranchSign name rs imm) reads writes =
      let link = link_code bank (sign_link name) at in
      joined (get_register bank rs ∷ [])
      (conditional_code (sign_likely name) (sign_test name) (branch_target at imm) (behind_slot at) link slot) (one rs reads.0)
      (conditional (sign_likely name) (sign_test name) (branch_target at imm) (behind_slot at) link (sign-links name))
  transfer-well (inst.Jump name index) reads writes =
      then-slot (Does Nop ∷ []) (link_code bank (jump_link name) at) refl (jump-links name)
  transfer-well (inst.JumpRegister rs) reads writes = joined (get_register bank rs ∷ []) slot (one rs reads.0) slot_is
  transfer-well (inst.JumpAndLinkRegister rs rd) reads writes =
      then-slot (get_register bank rs ∷ []) (link_code bank (Some rd) at) (one rs reads.0) (link-some rd writes.0)
  transfer-well other reads writes = slot_is
