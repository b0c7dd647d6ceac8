-- The code of branches and jumps leaves the field of a register alone, where that of the delay slot does.
use Rattle.std.proofs.Common.{ℕ, ◌+◌, ◌≤◌, Bool, true, false, List, [], ◌∷◌, ◌++◌, length, Some, refl, arith}
use Rattle.mips_definition.specs.Branches.{equal_likely, zero_likely, sign_likely}
use Rattle.mips_definition.specs.Targets.{branch_target}
use Rattle.mips_definition.specs.declared.names.branch_sign_name.BranchSignName.{BranchSignName}
use Rattle.mips_definition.specs.declared.names.branch_sign_name.BranchSignName.TheVariants.{Bltz, Bgez, Bltzal, Bgezal, Bltzl, Bgezl, Bltzall, Bgezall}
use Rattle.mips_definition.specs.declared.names.jump_name.JumpName.{JumpName}
use Rattle.mips_definition.specs.declared.names.jump_name.JumpName.TheVariants.{J, Jal}
use Rattle.mips_definition.specs.declared.inst.Inst.{Inst}
use Rattle.mips_definition.specs.declared.inst.Inst.TheVariants as inst
use Rattle.block_builder.specs.Registers.{read_by, written_by, written_by_branch_sign, written_by_jump}
use Rattle.jvm_definition.specs.declared.branch_name.BranchName.{BranchName}
use Rattle.jvm_definition.specs.declared.branch_name.BranchName.TheVariants.{Goto}
use Rattle.jvm_definition.specs.declared.instruction.Instruction.TheVariants.{Nop}
use Rattle.emit_steps.specs.declared.step.Step.{Step}
use Rattle.emit_steps.specs.declared.step.Step.TheVariants.{Does, Skips}
use Rattle.emit_layout.specs.FieldNumbers.{pc_field}
use Rattle.emit_instructions.specs.Access.{get_register, push_word}
use Rattle.emit_instructions.specs.Branching.{settle_code, goes_to_code, behind_slot, link_code, equal_test, zero_test, sign_test, sign_link, jump_link, conditional_code, transfer_code}
use Rattle.emit_spans_laws.proofs.PieceRegisters.Touching as touching

module _ (q : ℕ) (low : 1 ≤ q) (high : q ≤ 31) (bank at : ℕ) (slot : List Step) (slot_is : touching.Quiet q slot) where
  abbrev Quiet : List Step → Type 0
  Quiet code = touching.Quiet q code

  abbrev Spared : ℕ → Type 0
  Spared r = touching.IsSpared q bank r

  joined : (first second : List Step) → Quiet first → Quiet second → Quiet (first ++ second)
  joined first second h k = touching.quiet-both q first second h k

  one : (r : ℕ) → Spared r → Quiet (get_register bank r ∷ [])
  one r spared = rw (touching.get-quiet q low high bank r spared) refl

  two : (r s : ℕ) → Spared r → Spared s → Quiet (get_register bank r ∷ get_register bank s ∷ [])
  two r s a b = joined (get_register bank r ∷ []) (get_register bank s ∷ []) (one r a) (one s b)

  -- ---- parts

  settle : Quiet settle_code
  settle = rw (touching.other-field q low high pc_field (omega arith)) refl

  goes-to : (target : ℕ) → Quiet (goes_to_code target)
  goes-to target = joined (push_word target ∷ []) settle_code refl settle

  link-some : (r : ℕ) → Spared r → Quiet (link_code bank (Some r) at)
  link-some r spared = rw (touching.put-quiet q low high bank r spared) refl

  -- a part, the link and the slot
  then-slot : (part link : List Step) → Quiet part → Quiet link → Quiet (part ++ link ++ slot)
  then-slot part link h k = joined (part ++ link) slot (joined part link h k) slot_is

  conditional : (likely : Bool) (test : BranchName) (target behind : ℕ) (link : List Step) → Quiet link
      → Quiet (conditional_code likely test target behind link slot)
  conditional false test target behind link h =
      joined link slot h slot_is
  conditional true test target behind link h =
      let first = Skips test (5 + length link) ∷ [] in
      let over = Skips Goto (4 + length link + length slot) ∷ [] in
      let passed = goes_to_code behind ++ link in
      let taken = goes_to_code target ++ link ++ slot in
      joined (first ++ passed) (over ++ taken) (joined first passed refl (joined (goes_to_code behind) link (goes-to behind) h))
      (joined over taken refl (then-slot (goes_to_code target) link (goes-to target) h))

  sign-links : (name : BranchSignName) → touching.AreSpared q bank (written_by_branch_sign name) → Quiet (link_code bank (sign_link name) at)
  sign-links Bltz writes = refl
  sign-links Bgez writes = refl
  sign-links Bltzal writes = link-some 31 writes.0
  sign-links Bgezal writes = link-some 31 writes.0
  sign-links Bltzl writes = refl
  sign-links Bgezl writes = refl
  sign-links Bltzall writes = link-some 31 writes.0
  sign-links Bgezall writes = link-some 31 writes.0

  jump-links : (name : JumpName) → touching.AreSpared q bank (written_by_jump name) → Quiet (link_code bank (jump_link name) at)
  jump-links J writes = refl
  jump-links Jal writes = link-some 31 writes.0

  -- ---- all of them

  pub transfer-quiet : (i : Inst) → touching.AreSpared q bank (read_by i) → touching.AreSpared q bank (written_by i)
      → Quiet (transfer_code bank i at slot)
  transfer-quiet (inst.BranchEqual name rs rt imm) reads writes =
      joined (get_register bank rs ∷ get_register bank rt ∷ [])
      (conditional_code (equal_likely name) (equal_test name) (branch_target at imm) (behind_slot at) [] slot) (two rs rt reads.0 reads.1.0)
      (conditional (equal_likely name) (equal_test name) (branch_target at imm) (behind_slot at) [] refl)
  transfer-quiet (inst.BranchZero name rs imm) reads writes =
      joined (get_register bank rs ∷ [])
      (conditional_code (zero_likely name) (zero_test name) (branch_target at imm) (behind_slot at) [] slot) (one rs reads.0)
      (conditional (zero_likely name) (zero_test name) (branch_target at imm) (behind_slot at) [] refl)
  transfer-quiet (inst.BranchSign name rs imm) reads writes =
      let link = link_code bank (sign_link name) at in
      joined (get_register bank rs ∷ [])
      (conditional_code (sign_likely name) (sign_test name) (branch_target at imm) (behind_slot at) link slot) (one rs reads.0)
      (conditional (sign_likely name) (sign_test name) (branch_target at imm) (behind_slot at) link (sign-links name writes))
  transfer-quiet (inst.Jump name index) reads writes =
      then-slot (Does Nop ∷ []) (link_code bank (jump_link name) at) refl (jump-links name writes)
  transfer-quiet (inst.JumpRegister rs) reads writes = joined (get_register bank rs ∷ []) slot (one rs reads.0) slot_is
  transfer-quiet (inst.JumpAndLinkRegister rs rd) reads writes =
      then-slot (get_register bank rs ∷ []) (link_code bank (Some rd) at) (one rs reads.0) (link-some rd writes.0)
  transfer-quiet other reads writes = slot_is
