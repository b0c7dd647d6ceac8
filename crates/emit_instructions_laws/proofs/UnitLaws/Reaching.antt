-- The code of a branch up to its delay slot.
use Rattle.std.proofs.Common.{◌≡◌, ℕ, ◌+◌, ◌≤◌, Bool, true, false, List, ◌∷◌, ◌++◌, Option, IsTrue, ap, subst, sym, ◌∙◌, arith}
use Rattle.run_definition.specs.declared.order.Order.{Order}
use Rattle.run_definition.specs.Turn.{Turn, moves, ends, leaves, asks}
use Rattle.mips_definition.specs.State.{State}
use Rattle.mips_definition.specs.Branches.{equal_likely, zero_likely, sign_likely}
use Rattle.mips_definition.specs.Targets.{branch_target}
use Rattle.mips_definition.specs.declared.inst.Inst.{Inst}
use Rattle.mips_definition.specs.declared.inst.Inst.TheVariants as inst
use Rattle.jvm_definition.specs.declared.branch_name.BranchName.{BranchName}
use Rattle.block_builder.specs.Registers.{Register}
use Rattle.jvm_definition.specs.declared.value.Value.{Value}
use Rattle.jvm_definition.specs.declared.value.Value.TheVariants.{Int as int}
use Rattle.jvm_definition.specs.declared.instruction.Instruction.{Instruction}
use Rattle.jvm_definition.specs.Effect.{Workspace}
use Rattle.emit_steps.specs.declared.step.Step.{Step}
use Rattle.emit_steps.specs.Widths.{size}
use Rattle.emit_steps.specs.Outcomes.{outcome, ended, stays_within}
use Rattle.emit_steps.specs.Placing.{LiesAt}
use Rattle.emit_simulation_laws.specs.Knowing.{gained}
use Rattle.emit_instructions.specs.Branching.{equal_test, zero_test, sign_test, behind_slot}
use Rattle.emit_simulation_laws.specs.Holding.{HoldsOn, KeepsGoal}
use Rattle.emit_simulation_laws.specs.Sites.{Site, stands, whole_weight}
use Rattle.emit_simulation_laws.specs.Following.{ComesToEnd, Follows}
use Rattle.emit_simulation_laws.specs.Behind.{IsDone, HasGone, ConditionalGoal, SaysGoal}
use Rattle.emit_simulation_laws.specs.Laws.{PathLaws}
use Rattle.emit_simulation_laws.proofs.GuestFollows.CodeLaws.{code-laws}
use Rattle.emit_simulation_laws.proofs.GuestFollows.Weights.{whole-both, size-both}
use Rattle.emit_instructions_laws.specs.Instructions.{most_turns}
use Rattle.emit_instructions_laws.proofs.UnitLaws.Joining.{Maps, follows-after}
use Rattle.emit_instructions_laws.proofs.UnitLaws.Goals.{GoesTo}
use Rattle.emit_instructions_laws.proofs.UnitLaws.Links.{HasPut, link_written}

-- Code comes within so many turns to where the code of a slot lies in it, and there it is as said.
pub record ReachesSlot (site : Site) (order : Order) (Put : Workspace → Type 0) (most at : ℕ) (w : Workspace) (code slot : List Step) : Type 0 where
  pub place : ℕ
  pub lies : LiesAt site.program site.method place slot
  pub end : place + size slot ≡ at + size code
  pub total : (Instruction → ℕ) → ℕ
  pub weighs : (weight : Instruction → ℕ) → total weight + whole_weight order slot weight ≤ whole_weight order code weight
  pub comes : ComesToEnd site at place 1 most total Put (stands site at w)

-- ---- what a branch said before its slot is said behind it

conditional-still : (likely : Bool) (test : BranchName) (target behind : ℕ) (before v u : Workspace) (goal : ℕ) → u.operands ≡ v.operands → KeepsGoal v u → ConditionalGoal likely test target behind before v goal → ConditionalGoal likely test target behind before u goal
conditional-still true test target behind before v u goal operands kept says = record {
  operands_kept = operands ∙ says.operands_kept;
  field_is = kept.pc_kept ∙ says.field_is;
  local_is = kept.goal_kept ∙ says.local_is;
}
conditional-still false test target behind before v u goal operands kept says = record {
  values = says.values;
  operands_are = operands ∙ says.operands_are;
  taken = says.taken;
  fails = says.fails;
  goal_is = says.goal_is;
}

pub says-still : (i : Inst) (at : ℕ) (before v u : Workspace) (goal : ℕ) → u.operands ≡ v.operands → KeepsGoal v u → SaysGoal i at before v goal → SaysGoal i at before u goal
says-still (inst.BranchSign name rs imm) at before v u goal operands kept says = conditional-still (sign_likely name) (sign_test name) (branch_target at imm) (behind_slot at) before v u goal operands kept says
says-still (inst.BranchEqual name rs rt imm) at before v u goal operands kept says = conditional-still (equal_likely name) (equal_test name) (branch_target at imm) (behind_slot at) before v u goal operands kept says
says-still (inst.BranchZero name rs imm) at before v u goal operands kept says = conditional-still (zero_likely name) (zero_test name) (branch_target at imm) (behind_slot at) before v u goal operands kept says
says-still (inst.Jump name index) at before v u goal operands kept says = (operands ∙ says.0, says.1)
says-still (inst.JumpRegister rs) at before v u goal operands kept says = operands ∙ says
says-still (inst.JumpAndLinkRegister rs rd) at before v u goal operands kept says = operands ∙ says
says-still _ at before v u goal operands kept says = absurd says

-- it is said of the operands alone that were there before
conditional-from : (likely : Bool) (test : BranchName) (target behind : ℕ) (before first after : Workspace) (goal : ℕ) → first.operands ≡ before.operands → ConditionalGoal likely test target behind first after goal → ConditionalGoal likely test target behind before after goal
conditional-from true test target behind before first after goal operands says = record {
  operands_kept = says.operands_kept ∙ operands;
  field_is = says.field_is;
  local_is = says.local_is;
}
conditional-from false test target behind before first after goal operands says = record {
  values = says.values;
  operands_are = says.operands_are ∙ ap (λ (o : List Value). says.values ++ o) operands;
  taken = says.taken;
  fails = says.fails;
  goal_is = says.goal_is;
}

pub says-from : (i : Inst) (at : ℕ) (before first after : Workspace) (goal : ℕ) → first.operands ≡ before.operands → SaysGoal i at first after goal → SaysGoal i at before after goal
says-from (inst.BranchSign name rs imm) at before first after goal operands says = conditional-from (sign_likely name) (sign_test name) (branch_target at imm) (behind_slot at) before first after goal operands says
says-from (inst.BranchEqual name rs rt imm) at before first after goal operands says = conditional-from (equal_likely name) (equal_test name) (branch_target at imm) (behind_slot at) before first after goal operands says
says-from (inst.BranchZero name rs imm) at before first after goal operands says = conditional-from (zero_likely name) (zero_test name) (branch_target at imm) (behind_slot at) before first after goal operands says
says-from (inst.Jump name index) at before first after goal operands says = (says.0 ∙ operands, says.1)
says-from (inst.JumpRegister rs) at before first after goal operands says = says ∙ ap (λ (o : List Value). int goal ∷ o) operands
says-from (inst.JumpAndLinkRegister rs rd) at before first after goal operands says = says ∙ ap (λ (o : List Value). int goal ∷ o) operands
says-from _ at before first after goal operands says = absurd says

-- what holds behind the slot, by what held before it
module _ (bank : ℕ) (known : ℕ → Bool) (link : Option ℕ) (i : Inst) (target : ℕ) (written slot_written : List Register) (same : gained slot_written (gained (link_written link) known) ≡ gained written known) (w v : Workspace) (x : State) (before : HasPut bank known link (SaysGoal i x.pc w) target w v x) where
  has-gone : (t : State) (u : Workspace) → t.pc ≡ target → IsDone bank (gained (link_written link) known) slot_written v u t → HasGone bank known written i x.pc w u t
  has-gone t u there done = record {
    held = subst (λ k. HoldsOn bank k u t) same done.state.held;
    fields_kept = λ r above below keeps. done.state.kept.fields_kept r above below keeps ∙ before.fields_kept r above below keeps;
    goal = subst (SaysGoal i x.pc w u) (sym there) (says-still i x.pc w v u target done.state.kept.operands_kept done.goal before.goal);
  }

  maps-gone : (turn : Turn State) → GoesTo target turn → Maps turn (λ u t. IsDone bank (gained (link_written link) known) slot_written v u t) (λ u t. HasGone bank known written i x.pc w u t)
  maps-gone (moves t) goes = λ u done. has-gone t u goes done
  maps-gone (asks q next) goes = λ a u done. has-gone (next a) u (goes a) done
  maps-gone (ends e) goes = tt
  maps-gone (leaves q e) goes = tt

-- the slot's code behind the branch's
module _ (site : Site) (order : Order) (bank : ℕ) (known : ℕ → Bool) (link : Option ℕ) (i : Inst) (target most at : ℕ) (w : Workspace) (x : State) (code slot : List Step) (reaches : ReachesSlot site order (λ u. HasPut bank known link (SaysGoal i x.pc w) target w u x) most at w code slot) (in_time : most ≤ 16) (written slot_written : List Register) (same : gained slot_written (gained (link_written link) known) ≡ gained written known) where
  pub slot-joined : (last : Turn State) → GoesTo target last → ((v : Workspace) → HasPut bank known link (SaysGoal i x.pc w) target w v x → Follows site reaches.place (reaches.place + size slot) 1 most_turns (whole_weight order slot) (IsDone bank (gained (link_written link) known) slot_written v) (stands site reaches.place v) last) → Follows site at (at + size code) 2 264 (whole_weight order code) (HasGone bank known written i x.pc w) (stands site at w) last
  slot-joined last goes slot_follows =
      let c = reaches.comes in
      let a = c.no_sooner in
      let b = c.in_time in
      subst (λ high. Follows site at high 2 264 (whole_weight order code) (HasGone bank known written i x.pc w) (stands site at w) last) reaches.end
      (follows-after site at reaches.place (reaches.place + size slot) c.turns 1 most_turns 2 264 reaches.total (whole_weight order slot) (whole_weight order code) (stands site at w) (stands site reaches.place c.after) c.path (omega (arith, a)) (omega (arith, b, in_time)) reaches.weighs
      (IsDone bank (gained (link_written link) known) slot_written c.after) (HasGone bank known written i x.pc w) last
      (maps-gone bank known link i target written slot_written same w c.after x c.arrives last goes)
      (slot_follows c.after c.arrives))

-- code of a branch whose front comes to its end where the slot's code begins
module _ (laws : PathLaws) (site : Site) (order : Order) (Put : Workspace → Type 0) (most at n : ℕ) (w v : Workspace) (front slot : List Step) where
  pub front-reaches : IsTrue (stays_within front) → LiesAt site.program site.method at (front ++ slot) → outcome site.program site.words front w ≡ ended n v → 1 ≤ n → n ≤ most → Put v → ReachesSlot site order Put most at w (front ++ slot) slot
  front-reaches within lies is some few has =
      let parts = laws.parts site.program site.method at front slot within lies in
      let both = size-both front slot in
      record {
        place = at + size front;
        lies = parts.1;
        end = omega (arith, both);
        total = whole_weight order front;
        weighs = λ weight. let a = whole-both order weight front slot in omega (arith, a);
        comes = (code-laws laws).end_follows site order at 1 most n front w v Put parts.0 is some few has;
      }
