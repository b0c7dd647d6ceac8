-- What the code of each branch and jump does up to its slot, or past it.
use Rattle.std.proofs.Common.{◌≡◌, ℕ, suc, ◌+◌, ◌≤◌, Bool, true, false, not, ◌||◌, if◌then◌else◌, List, [], ◌∷◌, ◌++◌, Option, Some, None, IsTrue, ◌⊎◌, inl, inr, refl, ap, subst, sym, ◌∙◌, arith}
use Rattle.run_definition.specs.Words.{signed_of}
use Rattle.run_definition.specs.declared.order.Order.{Order}
use Rattle.run_definition.specs.Turn.{Turn, moves}
use Rattle.mips_definition.specs.State.{State, register}
use Rattle.mips_definition.specs.Effect as guest
use Rattle.mips_definition.specs.Step.{into_slot}
use Rattle.mips_definition.specs.Targets.{branch_target, jump_target}
use Rattle.mips_definition.specs.Branches.{equal_likely, equal_taken, zero_likely, zero_taken, sign_likely, sign_taken, sign_linked, jump_linked, branch_effect, after_slot}
use Rattle.mips_definition.specs.declared.inst.Inst.{Inst}
use Rattle.mips_definition.specs.declared.inst.Inst.TheVariants as inst
use Rattle.mips_definition.specs.declared.names.branch_sign_name.BranchSignName.{BranchSignName}
use Rattle.mips_definition.specs.declared.names.branch_sign_name.BranchSignName.TheVariants.{Bltz, Bgez, Bltzal, Bgezal, Bltzl, Bgezl, Bltzall, Bgezall}
use Rattle.mips_definition.specs.declared.names.jump_name.JumpName.{JumpName}
use Rattle.mips_definition.specs.declared.names.jump_name.JumpName.TheVariants.{J, Jal}
use Rattle.delay_slots.specs.Turns.{done, done_by}
use Rattle.delay_slots.specs.Units.{is_branch}
use Rattle.block_builder.specs.Registers.{read_by, written_by}
use Rattle.jvm_definition.specs.declared.branch_name.BranchName.{BranchName}
use Rattle.jvm_definition.specs.declared.value.Value.{Value}
use Rattle.jvm_definition.specs.declared.value.Value.TheVariants.{Int as int}
use Rattle.jvm_definition.specs.declared.instruction.Instruction.TheVariants.{Nop}
use Rattle.jvm_definition.specs.Effect.{Workspace, with_operands, branches, chooses}
use Rattle.emit_steps.specs.declared.step.Step.{Step}
use Rattle.emit_steps.specs.declared.step.Step.TheVariants as step
use Rattle.emit_steps.specs.Outcomes.{ended, later, outcome, stays_within}
use Rattle.emit_steps.specs.Placing.{LiesAt}
use Rattle.emit_instructions.specs.Access.{get_register}
use Rattle.emit_instructions.specs.Branching.{link_code, behind_slot, equal_test, zero_test, sign_test, sign_link, jump_link, conditional_code, transfer_code}
use Rattle.word_emitter.specs.Pieces.{is_likely}
use Rattle.word_emitter.specs.Exits.{unless}
use Rattle.emit_simulation_laws.specs.Knowing.{IsKnown, AreKnown, AreNumbers}
use Rattle.emit_simulation_laws.specs.Lawful.{IsTransfer}
use Rattle.emit_simulation_laws.specs.Behind.{ConditionalGoal, SaysGoal}
use Rattle.emit_simulation_laws.specs.Holding.{HoldsOn}
use Rattle.emit_simulation_laws.proofs.RegisterLaws.Reading.{register-pushed, known-word}
use Rattle.emit_simulation_laws.specs.Sites.{Site}
use Rattle.emit_simulation_laws.specs.Laws.{PathLaws}
use Rattle.emit_instructions_laws.proofs.UnitLaws.Links.{link_written, link_state}
use Rattle.emit_instructions_laws.proofs.UnitLaws.Tests.{equal-chooses, zero-chooses, sign-chooses, equal-fails, zero-fails, sign-fails}
use Rattle.emit_instructions_laws.proofs.UnitLaws.Within.{within-get}
use Rattle.emit_instructions_laws.proofs.UnitLaws.Fronts.{GoesIn, PassesOver, pushes-reach, likely-passes, likely-reaches}

-- the register that a branch or jump links
abbrev pub link_of : Inst → Option ℕ
link_of (inst.BranchSign name rs imm) = sign_link name
link_of (inst.Jump name index) = jump_link name
link_of (inst.JumpAndLinkRegister rs rd) = Some rd
link_of other = None

sign-written : (name : BranchSignName) (rs imm : ℕ) → link_written (sign_link name) ≡ written_by (inst.BranchSign name rs imm)
sign-written Bltz rs imm = refl
sign-written Bgez rs imm = refl
sign-written Bltzal rs imm = refl
sign-written Bgezal rs imm = refl
sign-written Bltzl rs imm = refl
sign-written Bgezl rs imm = refl
sign-written Bltzall rs imm = refl
sign-written Bgezall rs imm = refl

jump-written : (name : JumpName) (index : ℕ) → link_written (jump_link name) ≡ written_by (inst.Jump name index)
jump-written J index = refl
jump-written Jal index = refl

sign-state : (name : BranchSignName) (x : State) → link_state (sign_link name) x ≡ sign_linked name x
sign-state Bltz x = refl
sign-state Bgez x = refl
sign-state Bltzal x = refl
sign-state Bgezal x = refl
sign-state Bltzl x = refl
sign-state Bgezl x = refl
sign-state Bltzall x = refl
sign-state Bgezall x = refl

jump-state : (name : JumpName) (x : State) → link_state (jump_link name) x ≡ jump_linked name x
jump-state J x = refl
jump-state Jal x = refl

pub link-written : (i : Inst) → is_branch i ≡ true → link_written (link_of i) ≡ written_by i
link-written (inst.BranchSign name rs imm) one = sign-written name rs imm
link-written (inst.Jump name index) one = jump-written name index
link-written (inst.JumpRegister rs) one = refl
link-written (inst.JumpAndLinkRegister rs rd) one = refl
link-written (inst.BranchEqual name rs rt imm) one = refl
link-written (inst.BranchZero name rs imm) one = refl
link-written _ one = cc

-- the branch is done, and the guest comes to its slot, or a likely one passes it over
abbrev pub Does : Site → Order → ℕ → (ℕ → Bool) → Option ℕ → (Workspace → ℕ → Type 0) → ℕ → Workspace → State → List Step → List Step → Bool → Turn State → Type 0
Does site order bank known link Goal at w x code slot likely last =
    GoesIn site order bank known link Goal at w x code slot last ⊎ ((likely ≡ true) × PassesOver site order bank known link Goal at w x code slot last)

module _ (laws : PathLaws) (site : Site) (order : Order) (bank : ℕ) (known : ℕ → Bool) (w : Workspace) (x : State) (h : HoldsOn bank known w x) (at : ℕ) (slot : List Step) where
  module _ (link : Option ℕ) (numbers : AreNumbers (link_written link)) (test : BranchName) (target : ℕ) (values : List Value) (pushes : List Step) (more : ℕ → ℕ) (pushed : (code : List Step) (n : ℕ) (v : Workspace) → outcome site.program site.words code (with_operands w (values ++ w.operands)) ≡ ended n v → outcome site.program site.words (pushes ++ code) w ≡ ended (more n) v) (pushes_within : (code : List Step) → IsTrue (stays_within code) → IsTrue (stays_within (pushes ++ code))) (few : (n : ℕ) → more n ≤ n + 2) (some : (n : ℕ) → 1 ≤ more n) where
    abbrev conditional : Bool → List Step
    conditional likely = pushes ++ conditional_code likely test target (behind_slot x.pc) (link_code bank link x.pc) slot

    abbrev Goal : Bool → Workspace → ℕ → Type 0
    Goal likely = λ u goal. ConditionalGoal likely test target (behind_slot x.pc) w u goal

    conditional-does : (likely taken : Bool) → branches test (with_operands w (values ++ w.operands)) ≡ chooses taken (with_operands w (values ++ w.operands)) w.operands → ((v : Workspace) (rest : List Value) → branches (unless test) (with_operands v (values ++ rest)) ≡ chooses (not taken) (with_operands v (values ++ rest)) rest) → LiesAt site.program site.method at (conditional likely) → Does site order bank known link (Goal likely) at w x (conditional likely) slot likely (done_by (if not likely || taken then guest.branches (link_state link x) (if taken then target else after_slot x) else guest.skips_slot (link_state link x)) x)
    conditional-does false taken tests fails lies = inl (record {
      target = if taken then target else behind_slot x.pc;
      done_is = refl;
      reaches = pushes-reach laws site order bank known link w x numbers h (values ++ w.operands) pushes more pushed pushes_within few some (Goal false) (if taken then target else behind_slot x.pc) at slot
          (λ u is. record { values = values; operands_are = is; taken = taken; fails = fails; goal_is = refl }) lies;
    })
    conditional-does true true tests fails lies = inl (record {
      target = target;
      done_is = refl;
      reaches = likely-reaches laws site order bank known link w x numbers h test target (behind_slot x.pc) (values ++ w.operands) pushes more pushed pushes_within few slot at tests lies;
    })
    conditional-does true false tests fails lies = inr (
      refl,
      record {
        done_is = refl;
        past = likely-passes laws site order bank known link w x numbers h test target (behind_slot x.pc) (values ++ w.operands) pushes more pushed pushes_within few slot at tests lies;
      },
    )

  -- one register is pushed, or two
  one-pushed : (r : ℕ) → IsKnown known r → (code : List Step) (n : ℕ) (v : Workspace) → outcome site.program site.words code (with_operands w (int (register x r) ∷ w.operands)) ≡ ended n v → outcome site.program site.words (get_register bank r ∷ code) w ≡ ended (suc n) v
  one-pushed r is code n v runs = register-pushed site.program site.words bank r known code w x h is ∙ ap later runs

  two-pushed : (r q : ℕ) → IsKnown known r → IsKnown known q → (code : List Step) (n : ℕ) (v : Workspace) → outcome site.program site.words code (with_operands w (int (register x q) ∷ int (register x r) ∷ w.operands)) ≡ ended n v → outcome site.program site.words (get_register bank r ∷ get_register bank q ∷ code) w ≡ ended (suc (suc n)) v
  two-pushed r q is it code n v runs =
      register-pushed site.program site.words bank r known (get_register bank q ∷ code) w x h is
      ∙ ap later (register-pushed site.program site.words bank q known code (with_operands w (int (register x r) ∷ w.operands)) x h it)
      ∙ ap (λ o. later (later o)) runs

  pub transfer-does : (i : Inst) → IsTransfer i → AreKnown known (read_by i) → LiesAt site.program site.method at (transfer_code bank i x.pc slot) → Does site order bank known (link_of i) (SaysGoal i x.pc w) at w x (transfer_code bank i x.pc slot) slot (is_likely i) (done i x)
  transfer-does (inst.BranchEqual name rs rt imm) is reads lies =
      conditional-does None tt (equal_test name) (branch_target x.pc imm) (int (register x rt) ∷ int (register x rs) ∷ []) (get_register bank rs ∷ get_register bank rt ∷ []) (λ n. suc (suc n))
      (two-pushed rs rt reads.0 reads.1.0)
      (λ code within. within-get bank rs (get_register bank rt ∷ code) (within-get bank rt code within))
      (λ n. omega arith) (λ n. omega arith) (equal_likely name) (equal_taken name (register x rs) (register x rt))
      (equal-chooses w w.operands name (register x rs) (register x rt) (known-word bank rs known w x h reads.0) (known-word bank rt known w x h reads.1.0))
      (λ v rest. equal-fails v rest name (register x rs) (register x rt) (known-word bank rs known w x h reads.0) (known-word bank rt known w x h reads.1.0)) lies
  transfer-does (inst.BranchZero name rs imm) is reads lies =
      conditional-does None tt (zero_test name) (branch_target x.pc imm) (int (register x rs) ∷ []) (get_register bank rs ∷ []) suc
      (one-pushed rs reads.0) (λ code within. within-get bank rs code within)
      (λ n. omega arith) (λ n. omega arith) (zero_likely name) (zero_taken name (signed_of (register x rs)))
      (zero-chooses w w.operands name (register x rs)) (λ v rest. zero-fails v rest name (register x rs)) lies
  transfer-does (inst.BranchSign name rs imm) is reads lies =
      subst (λ (t : State). Does site order bank known (sign_link name) (SaysGoal (inst.BranchSign name rs imm) x.pc w) at w x (transfer_code bank (inst.BranchSign name rs imm) x.pc slot) slot (sign_likely name) (done_by (branch_effect (sign_likely name) (sign_taken name (signed_of (register x rs))) x t imm) x)) (sign-state name x)
      (conditional-does (sign_link name) (subst AreNumbers (sym (sign-written name rs imm)) is.fields.writes) (sign_test name) (branch_target x.pc imm) (int (register x rs) ∷ []) (get_register bank rs ∷ []) suc
      (one-pushed rs reads.0) (λ code within. within-get bank rs code within)
      (λ n. omega arith) (λ n. omega arith) (sign_likely name) (sign_taken name (signed_of (register x rs)))
      (sign-chooses w w.operands name (register x rs)) (λ v rest. sign-fails v rest name (register x rs)) lies)
  transfer-does (inst.Jump name index) is reads lies =
      subst (λ (t : State). Does site order bank known (jump_link name) (SaysGoal (inst.Jump name index) x.pc w) at w x (transfer_code bank (inst.Jump name index) x.pc slot) slot false (moves (into_slot t (jump_target x.pc index)))) (jump-state name x)
      (inl (record {
        target = jump_target x.pc index;
        done_is = refl;
        reaches = pushes-reach laws site order bank known (jump_link name) w x (subst AreNumbers (sym (jump-written name index)) is.fields.writes) h w.operands (step.Does Nop ∷ []) suc
            (λ code n v runs. ap later runs) (λ code within. within) (λ n. omega arith) (λ n. omega arith)
            (SaysGoal (inst.Jump name index) x.pc w) (jump_target x.pc index) at slot (λ u is. (is, refl)) lies;
      }))
  transfer-does (inst.JumpRegister rs) is reads lies = inl (record {
    target = register x rs;
    done_is = refl;
    reaches = pushes-reach laws site order bank known None w x tt h (int (register x rs) ∷ w.operands) (get_register bank rs ∷ []) suc
        (one-pushed rs reads.0) (λ code within. within-get bank rs code within) (λ n. omega arith) (λ n. omega arith)
        (SaysGoal (inst.JumpRegister rs) x.pc w) (register x rs) at slot (λ u is. is) lies;
  })
  transfer-does (inst.JumpAndLinkRegister rs rd) is reads lies = inl (record {
    target = register x rs;
    done_is = refl;
    reaches = pushes-reach laws site order bank known (Some rd) w x is.fields.writes h (int (register x rs) ∷ w.operands) (get_register bank rs ∷ []) suc
        (one-pushed rs reads.0) (λ code within. within-get bank rs code within) (λ n. omega arith) (λ n. omega arith)
        (SaysGoal (inst.JumpAndLinkRegister rs rd) x.pc w) (register x rs) at slot (λ u is. is) lies;
  })
  transfer-does _ is reads lies = absurd (not-one is.is_one)
    where
      not-one : false ≡ true → ⊥
      not-one e = cc
