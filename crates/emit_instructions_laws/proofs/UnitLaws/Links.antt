-- What a branch puts down before its slot, and its link.
use Rattle.std.proofs.Common.{◌≡◌, ℕ, suc, ◌^◌, ◌==◌, ◌<◌, ◌≤◌, lit≤, Bool, if◌then◌else◌, List, [], ◌∷◌, ◌++◌, Option, Some, None, refl, ap, ◌∙◌, arith}
use Rattle.std.proofs.lemmas.Grind.{common_steps}
use Rattle.mips_definition.specs.State.{State}
use Rattle.mips_definition.specs.Branches.{with_return_link}
use Rattle.block_builder.specs.Registers.{Register, general}
use Rattle.jvm_definition.specs.declared.value.Value.{Value}
use Rattle.jvm_definition.specs.declared.value.Value.TheVariants.{Int as int}
use Rattle.jvm_definition.specs.Program.{Program}
use Rattle.jvm_definition.specs.Effect.{Workspace, with_operands}
use Rattle.emit_steps.specs.Outcomes.{ended, later, outcome}
use Rattle.emit_layout.specs.FieldNumbers.{pc_field}
use Rattle.emit_instructions.specs.Branching.{settle_code, link_code, behind_slot}
use Rattle.emit_simulation_laws.specs.Knowing.{gained, AreNumbers}
use Rattle.emit_simulation_laws.specs.Behind.{IsSettled}
use Rattle.emit_simulation_laws.specs.Holding.{HoldsOn, Keeps, KeepsFields, IsLink, reached, with_value}
use Rattle.emit_simulation_laws.proofs.RegisterLaws.Writing.{register-put, register-held, register-kept, register-goal-kept}

-- ---- the goal

abbrev pub settled : Workspace → ℕ → List Value → Workspace
settled w target operands = record {
  locals = λ k. if k == 0 then int target else w.locals k;
  operands = operands;
  fields = λ g. if g == pc_field then int target else w.fields g;
  heap = w.heap;
}

reach-settled : (bank target : ℕ) (w : Workspace) (operands : List Value) (r : ℕ) → 0 < r → r < 32 → reached bank (settled w target operands) r ≡ reached bank w r
reach-settled bank target w operands r above below = grind (arith, common_steps)

settled-link : (target : ℕ) (w : Workspace) (operands : List Value) (link : Option ℕ) → IsLink w.fields link → IsLink (settled w target operands).fields link
settled-link target w operands None is = is
settled-link target w operands (Some at) is = is

pub settled-held : (bank target : ℕ) (known : ℕ → Bool) (w : Workspace) (s : State) (operands : List Value) → HoldsOn bank known w s → HoldsOn bank known (settled w target operands) s
settled-held bank target known w s operands h = record {
  register_is = λ r above below is. reach-settled bank target w operands r above below ∙ h.register_is r above below is;
  register_word = h.register_word;
  hi_is = h.hi_is;
  hi_word = h.hi_word;
  lo_is = h.lo_is;
  lo_word = h.lo_word;
  pc = target;
  pc_is = refl;
  link_is = settled-link target w operands s.load_link h.link_is;
  readable = h.readable;
  readable_is = h.readable_is;
  writable = h.writable;
  writable_is = h.writable_is;
  memory_held = h.memory_held;
}

pub settled-kept : (bank target : ℕ) (w : Workspace) → Keeps bank w (settled w target w.operands)
settled-kept bank target w = grind (arith, common_steps)

-- ---- the link

abbrev pub link_written : Option ℕ → List Register
link_written None = []
link_written (Some r) = general r ∷ []

abbrev pub link_state : Option ℕ → State → State
link_state None s = s
link_state (Some r) s = with_return_link s r

abbrev pub linked_workspace : ℕ → Option ℕ → ℕ → Workspace → Workspace
linked_workspace bank None at v = v
linked_workspace bank (Some r) at v = with_value bank r (int (behind_slot at)) v v.operands

-- ---- both

-- the workspace behind them
abbrev pub gone : ℕ → Option ℕ → ℕ → Workspace → ℕ → Workspace
gone bank link at w target = linked_workspace bank link at (settled w target w.operands)

-- What is there behind the goal and the link of a branch in a state.
pub record HasSettled (bank : ℕ) (known : ℕ → Bool) (link : Option ℕ) (target : ℕ) (before after : Workspace) (x : State) : Type 0 where
  pub held : HoldsOn bank (gained (link_written link) known) after (link_state link x)
  pub kept : Keeps bank before after
  pub field_is : after.fields pc_field ≡ int target
  pub local_is : after.locals 0 ≡ int target

pub has-settled : (bank target : ℕ) (known : ℕ → Bool) (link : Option ℕ) (w : Workspace) (x : State) → AreNumbers (link_written link) → HoldsOn bank known w x → HasSettled bank known link target w (gone bank link x.pc w target) x
has-settled bank target known None w x below h = record {
  held = settled-held bank target known w x w.operands h;
  kept = settled-kept bank target w;
  field_is = refl;
  local_is = refl;
}
has-settled bank target known (Some r) w x below h =
    let first = settled w target w.operands in
    let word : behind_slot x.pc < 2 ^ 32 = omega arith in
    let kept = register-kept bank r (behind_slot x.pc) first in
    let goal = register-goal-kept bank r (behind_slot x.pc) first w.operands below.0 in
    record {
      held = register-held bank r (behind_slot x.pc) known first x w.operands below.0 word (settled-held bank target known w x w.operands h);
      kept = record {
        fields_kept = λ g above least keeps. kept.fields_kept g above least keeps ∙ (settled-kept bank target w).fields_kept g above least keeps;
        operands_kept = kept.operands_kept;
      };
      field_is = goal.pc_kept;
      local_is = goal.goal_kept;
    }

-- ---- what stands before a slot, wherever the goal is said

-- A link is written behind what a branch pushed or settled, which says its goal.
pub record HasPut (bank : ℕ) (known : ℕ → Bool) (link : Option ℕ) (Goal : Workspace → ℕ → Type 0) (target : ℕ) (before after : Workspace) (x : State) : Type 0 where
  pub held : HoldsOn bank (gained (link_written link) known) after (link_state link x)
  pub fields_kept : KeepsFields bank before after
  pub goal : Goal after target

pub settled-put : (bank target : ℕ) (known : ℕ → Bool) (link : Option ℕ) (w u : Workspace) (x : State) → HasSettled bank known link target w u x → HasPut bank known link (IsSettled w) target w u x
settled-put bank target known link w u x has = record {
  held = has.held;
  fields_kept = has.kept.fields_kept;
  goal = record { operands_kept = has.kept.operands_kept; field_is = has.field_is; local_is = has.local_is };
}

-- what a branch pushed is above the operands, and its link is written
pub has-pushed : (bank target : ℕ) (known : ℕ → Bool) (link : Option ℕ) (Goal : Workspace → ℕ → Type 0) (w : Workspace) (x : State) (operands : List Value) → AreNumbers (link_written link) → HoldsOn bank known w x → ((u : Workspace) → u.operands ≡ operands → Goal u target) → HasPut bank known link Goal target w (linked_workspace bank link x.pc (with_operands w operands)) x
has-pushed bank target known None Goal w x operands below h says = record {
  held = h;
  fields_kept = λ r above least keeps. refl;
  goal = says (with_operands w operands) refl;
}
has-pushed bank target known (Some r) Goal w x operands below h says =
    let first = with_operands w operands in
    let word : behind_slot x.pc < 2 ^ 32 = omega arith in
    let kept = register-kept bank r (behind_slot x.pc) first in
    record {
      held = register-held bank r (behind_slot x.pc) known first x operands below.0 word h;
      fields_kept = λ g above least keeps. kept.fields_kept g above least keeps;
      goal = says (with_value bank r (int (behind_slot x.pc)) first operands) kept.operands_kept;
    }

-- ---- the same where nothing stands behind them

abbrev pub link_turns : Option ℕ → ℕ
link_turns None = 0
link_turns (Some r) = 2

link-ends : (program : Program) (words bank at : ℕ) (link : Option ℕ) (v : Workspace) → outcome program words (link_code bank link at) v ≡ ended (link_turns link) (linked_workspace bank link at v)
link-ends program words bank at None v = refl
link-ends program words bank at (Some r) v = ap later (register-put program words bank r (behind_slot at) [] v v.operands)

-- the link alone
pub pushed-ends : (program : Program) (words bank at : ℕ) (link : Option ℕ) (v : Workspace) → outcome program words (link_code bank link at) v ≡ ended (link_turns link) (linked_workspace bank link at v)
pushed-ends program words bank at link v = link-ends program words bank at link v

pub goal-ends : (program : Program) (words bank at target : ℕ) (link : Option ℕ) (w : Workspace) → outcome program words (settle_code ++ link_code bank link at) (with_operands w (int target ∷ w.operands)) ≡ ended (suc (suc (suc (link_turns link)))) (gone bank link at w target)
goal-ends program words bank at target link w = ap (λ o. later (later (later o))) (link-ends program words bank at link (settled w target w.operands))

pub few-links : (link : Option ℕ) → link_turns link ≤ 2
few-links None = lit≤ tt
few-links (Some r) = lit≤ tt
