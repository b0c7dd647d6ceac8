-- Where a branch or jump goes: into its delay slot, or past it.
use Rattle.std.proofs.Common.{◌≡◌, ℕ, ◌+◌, ◌%◌, ◌^◌, Bool, true, false, not, ◌&&◌, ◌||◌, if◌then◌else◌, ◌⊎◌, inl, inr, refl, ap, sym, ◌∙◌}
use Rattle.std.proofs.lemmas.Bool.{true≢false}
use Rattle.run_definition.specs.Words.{signed_of}
use Rattle.run_definition.specs.Turn.{Turn, moves}
use Rattle.mips_definition.specs.State.{State, register}
use Rattle.mips_definition.specs.Effect.{branches, skips_slot}
use Rattle.mips_definition.specs.Step.{into_slot, past_slot}
use Rattle.mips_definition.specs.Targets.{jump_target}
use Rattle.mips_definition.specs.Branches.{with_return_link, taken_or_not, equal_likely, equal_taken, zero_likely, zero_taken, sign_likely, sign_taken, sign_linked, jump_linked}
use Rattle.mips_definition.specs.declared.inst.Inst.{Inst}
use Rattle.mips_definition.specs.declared.inst.Inst.TheVariants as inst
use Rattle.mips_definition.specs.declared.names.branch_sign_name.BranchSignName.{BranchSignName}
use Rattle.mips_definition.specs.declared.names.branch_sign_name.BranchSignName.TheVariants.{Bltz, Bgez, Bltzal, Bgezal, Bltzl, Bgezl, Bltzall, Bgezall}
use Rattle.mips_definition.specs.declared.names.jump_name.JumpName.{JumpName}
use Rattle.mips_definition.specs.declared.names.jump_name.JumpName.TheVariants.{J, Jal}
use Rattle.delay_slots.specs.Turns.{done, done_by, skips}
use Rattle.delay_slots.specs.Units.{is_branch}
use Rattle.emit_instructions_laws.specs.Steps.{IsInSlot}

-- where the program goes behind the slot
abbrev pub goal_of : Inst → State → ℕ
goal_of (inst.JumpRegister rs) x = register x rs
goal_of (inst.JumpAndLinkRegister rs rd) x = register x rs
goal_of (inst.Jump name index) x = jump_target x.pc index
goal_of (inst.BranchEqual name rs rt imm) x = taken_or_not x (equal_taken name (register x rs) (register x rt)) imm
goal_of (inst.BranchZero name rs imm) x = taken_or_not x (zero_taken name (signed_of (register x rs))) imm
goal_of (inst.BranchSign name rs imm) x = taken_or_not x (sign_taken name (signed_of (register x rs))) imm
goal_of _ x = 0

-- The slot is not skipped, and the turn comes to it.
pub record ComesToSlot (x : State) (skipped : Bool) (goal : ℕ) (last : Turn State) : Type 0 where
  pub linked_state : State
  pub kept : linked_state ≡ record x { registers = linked_state.registers }
  pub not_skipped : skipped ≡ false
  pub last_is : last ≡ moves (into_slot linked_state goal)

-- It is skipped.
pub record GoesPastSlot (x : State) (skipped : Bool) (last : Turn State) : Type 0 where
  pub linked_state : State
  pub is_skipped : skipped ≡ true
  pub last_is : last ≡ moves (past_slot linked_state)

abbrev pub Goes : State → Bool → ℕ → Turn State → Type 0
Goes x skipped goal last = ComesToSlot x skipped goal last ⊎ GoesPastSlot x skipped last

condition-goes : (likely taken : Bool) (x t : State) (target : ℕ) → t ≡ record x { registers = t.registers } → Goes x (likely && not taken) target (done_by (if not likely || taken then branches t target else skips_slot t) x)
condition-goes true true x t target kept = inl (record { linked_state = t; kept = kept; not_skipped = refl; last_is = refl })
condition-goes true false x t target kept = inr (record { linked_state = t; is_skipped = refl; last_is = refl })
condition-goes false true x t target kept = inl (record { linked_state = t; kept = kept; not_skipped = refl; last_is = refl })
condition-goes false false x t target kept = inl (record { linked_state = t; kept = kept; not_skipped = refl; last_is = refl })

sign-kept : (name : BranchSignName) (x : State) → sign_linked name x ≡ record x { registers = (sign_linked name x).registers }
sign-kept Bltz x = refl
sign-kept Bgez x = refl
sign-kept Bltzal x = refl
sign-kept Bgezal x = refl
sign-kept Bltzl x = refl
sign-kept Bgezl x = refl
sign-kept Bltzall x = refl
sign-kept Bgezall x = refl

jump-kept : (name : JumpName) (x : State) → jump_linked name x ≡ record x { registers = (jump_linked name x).registers }
jump-kept J x = refl
jump-kept Jal x = refl

pub branch-goes : (i : Inst) (x : State) → is_branch i ≡ true → Goes x (skips i x) (goal_of i x) (done i x)
branch-goes (inst.JumpRegister rs) x is = inl (record { linked_state = x; kept = refl; not_skipped = refl; last_is = refl })
branch-goes (inst.JumpAndLinkRegister rs rd) x is = inl (record { linked_state = with_return_link x rd; kept = refl; not_skipped = refl; last_is = refl })
branch-goes (inst.Jump name index) x is = inl (record { linked_state = jump_linked name x; kept = jump-kept name x; not_skipped = refl; last_is = refl })
branch-goes (inst.BranchEqual name rs rt imm) x is =
    let taken = equal_taken name (register x rs) (register x rt) in
    condition-goes (equal_likely name) taken x x (taken_or_not x taken imm) refl
branch-goes (inst.BranchZero name rs imm) x is =
    let taken = zero_taken name (signed_of (register x rs)) in
    condition-goes (zero_likely name) taken x x (taken_or_not x taken imm) refl
branch-goes (inst.BranchSign name rs imm) x is =
    let taken = sign_taken name (signed_of (register x rs)) in
    condition-goes (sign_likely name) taken x (sign_linked name x) (taken_or_not x taken imm) (sign-kept name x)
branch-goes _ x is = absurd (true≢false (sym is))

-- the state in the slot
pub in-slot : (x t : State) (goal : ℕ) → x.begun ≡ true → t ≡ record x { registers = t.registers } → IsInSlot x (into_slot t goal)
in-slot x t goal begun kept = record {
  begun = ap (λ (s : State). s.begun) kept ∙ begun;
  pc = ap (λ (s : State). (s.pc + 4) % 2 ^ 32) kept;
  pending = λ e. cc;
  code = ap (λ (s : State). s.code) kept;
}
