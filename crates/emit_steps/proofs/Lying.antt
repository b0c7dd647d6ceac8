-- Code that lies in a method does there what its steps say.
use Rattle.std.proofs.Common.{◌≡◌, ℕ, zero, suc, ◌+◌, List, [], ◌∷◌, slice_get, Option, Some, None, refl, ap, subst, sym, ◌∙◌, arith}
use Rattle.std.proofs.Math.Nat.{add_assoc}
use Rattle.run_definition.specs.Turn.{Turn, moves, ends, leaves, asks}
use Rattle.jvm_definition.specs.declared.branch_name.BranchName.{BranchName}
use Rattle.jvm_definition.specs.declared.table_switch.TableSwitch.{TableSwitch as Table}
use Rattle.jvm_definition.specs.declared.instruction.Instruction.TheVariants.{TableSwitch}
use Rattle.jvm_definition.specs.Program.{Program, linked_line_at, instruction_targets}
use Rattle.jvm_definition.specs.Effect.{Workspace, InstructionEffect, goes_on, jumps, branches, instruction_effect}
use Rattle.jvm_definition.specs.Step.{JvmState, Frame, frame_placed, jvm_turn, jvm_turn_by, executed_line, jumped}
use Rattle.jvm_definition_laws.specs.Stretch.{advanced}
use Rattle.emit_steps.specs.declared.step.Step.{Step}
use Rattle.emit_steps.specs.declared.step.Step.TheVariants.{Does, Skips, Leaves, Selects}
use Rattle.emit_steps.specs.Widths.{width, bytes_before, size}
use Rattle.emit_steps.specs.Outcomes.{Outcome, ended, left, stopped, beyond, later, after_instruction, after_branch, selected, after_switch, outcome_from}
use Rattle.emit_steps.specs.Placing.{placed_line, LiesAt}
use Rattle.emit_steps.specs.Leading.{LeadsTo}

-- ---- turns that only move

abbrev after_turn : {S : Type 0} → (S → Turn S) → ℕ → Turn S → Option S
after_turn turn n (moves t) = advanced turn n t
after_turn turn n (ends e) = None
after_turn turn n (leaves q e) = None
after_turn turn n (asks q next) = None

advanced-suc : {S : Type 0} (turn : S → Turn S) (n : ℕ) (s : S) → advanced turn (suc n) s ≡ after_turn turn n (turn s)
advanced-suc turn n s = elim (turn s) as (λ x. elim x [
  | moves t ↦ advanced turn n t
  | ends e ↦ None
  | leaves q e ↦ None
  | asks q next ↦ None
] ≡ after_turn turn n x) [ moves t ↦ refl | ends e ↦ refl | leaves q e ↦ refl | asks q next ↦ refl ]

pub one-more : {S : Type 0} (turn : S → Turn S) (n : ℕ) (s t : S) → turn s ≡ moves t → advanced turn (suc n) s ≡ advanced turn n t
one-more turn n s t is = advanced-suc turn n s ∙ ap (after_turn turn n) is

-- ---- code behind a step

-- what the code behind a step does is what the whole code does, seen from that step
pub moved-on : (program : Program) (words m at : ℕ) (s : Step) (code : List Step) (others : List Frame) (x : JvmState) (o : Outcome) → LeadsTo program words m (at + width s) code others x o → LeadsTo program words m at (s ∷ code) others x (beyond o)
moved-on program words m at s code others x (ended n w) leads =
    leads ∙ ap (λ a. Some (frame_placed m a w others)) (add_assoc at (width s) (size code))
moved-on program words m at s code others x (left n target w) leads = leads
moved-on program words m at s code others x (stopped n i w e) leads = (
  leads.0 ∙ ap (λ a. Some (frame_placed m a w others)) (add_assoc at (width s) (bytes_before code i)),
  record {
    line = leads.1.line;
    line_is = leads.1.line_is;
    next_is = leads.1.next_is ∙ add_assoc at (width s) (bytes_before code (suc i));
    turns = subst (λ a. jvm_turn program words (frame_placed m a w others) ≡ jvm_turn_by e m leads.1.line others) (add_assoc at (width s) (bytes_before code i)) leads.1.turns;
  },
)

-- the same after one turn more
grown : (program : Program) (words m at : ℕ) (code : List Step) (others : List Frame) (x y : JvmState) (o : Outcome) → jvm_turn program words x ≡ moves y → LeadsTo program words m at code others y (beyond o) → LeadsTo program words m at code others x (later o)
grown program words m at code others x y (ended n w) first leads = one-more (jvm_turn program words) n x y first ∙ leads
grown program words m at code others x y (left n target w) first leads = one-more (jvm_turn program words) n x y first ∙ leads
grown program words m at code others x y (stopped n i w e) first leads = (one-more (jvm_turn program words) n x y first ∙ leads.0, leads.1)

-- ---- one step

here : (at : ℕ) → at + 0 ≡ at
here at = omega arith

-- the machine's turn at the first step of the code
first-turn : (program : Program) (words m at : ℕ) (s : Step) (code : List Step) (others : List Frame) (w : Workspace) → linked_line_at program m at ≡ Some (placed_line at s code) → jvm_turn program words (frame_placed m (at + 0) w others) ≡ jvm_turn_by (instruction_effect program words (placed_line at s code).instruction w) m (placed_line at s code) others
first-turn program words m at s code others w stands =
    ap (λ a. jvm_turn program words (frame_placed m a w others)) (here at)
    ∙ ap (executed_line program words (frame_placed m at w others) (record { method = m; at = at; locals = w.locals; operands = w.operands }) others) stands

-- the code stops at its first step
stops : (program : Program) (words m at : ℕ) (s : Step) (code : List Step) (others : List Frame) (w : Workspace) (e : InstructionEffect) → jvm_turn program words (frame_placed m (at + 0) w others) ≡ jvm_turn_by e m (placed_line at s code) others → LeadsTo program words m at (s ∷ code) others (frame_placed m (at + 0) w others) (stopped 0 0 w e)
stops program words m at s code others w e is = (
  refl,
  record {
    line = placed_line at s code;
    line_is = refl;
    next_is = ap (λ a. at + a) (sym (here (width s)));
    turns = is;
  },
)

-- the rest of the code, wherever it is begun
abbrev Rest : Program → ℕ → ℕ → ℕ → List Step → List Frame → ℕ → (Workspace → Outcome) → Type 0
Rest program words m at code others k rest =
    (v : Workspace) → LeadsTo program words m at code others (frame_placed m (at + bytes_before code k) v others) (rest v)

goes-on : (program : Program) (words m at to : ℕ) (s : Step) (code : List Step) (others : List Frame) (w v : Workspace) (k : ℕ) (rest : Workspace → Outcome) → jvm_turn program words (frame_placed m (at + 0) w others) ≡ moves (frame_placed m to v others) → to ≡ at + width s + bytes_before code k → Rest program words m (at + width s) code others k rest → LeadsTo program words m at (s ∷ code) others (frame_placed m (at + 0) w others) (later (rest v))
goes-on program words m at to s code others w v k rest is place then_on =
    grown program words m at (s ∷ code) others (frame_placed m (at + 0) w others) (frame_placed m (at + width s + bytes_before code k) v others) (rest v)
    (is ∙ ap (λ a. moves (frame_placed m a v others)) place)
    (moved-on program words m at s code others (frame_placed m (at + width s + bytes_before code k) v others) (rest v) (then_on v))

does : (program : Program) (words m at : ℕ) (s : Step) (code : List Step) (others : List Frame) (w : Workspace) (e : InstructionEffect) (rest : Workspace → Outcome) → jvm_turn program words (frame_placed m (at + 0) w others) ≡ jvm_turn_by e m (placed_line at s code) others → Rest program words m (at + width s) code others 0 rest → LeadsTo program words m at (s ∷ code) others (frame_placed m (at + 0) w others) (after_instruction w e rest)
does program words m at s code others w (goes_on v) rest is then_on =
    goes-on program words m at (at + width s) s code others w v 0 rest is (sym (here (at + width s))) then_on
does program words m at s code others w e rest is then_on = stops program words m at s code others w e is

skips : (program : Program) (words m at : ℕ) (name : BranchName) (k : ℕ) (code : List Step) (others : List Frame) (w : Workspace) (e : InstructionEffect) (rest target : Workspace → Outcome) → jvm_turn program words (frame_placed m (at + 0) w others) ≡ jvm_turn_by e m (placed_line at (Skips name k) code) others → Rest program words m (at + 3) code others 0 rest → Rest program words m (at + 3) code others k target → LeadsTo program words m at (Skips name k ∷ code) others (frame_placed m (at + 0) w others) (after_branch w e rest target)
skips program words m at name k code others w (goes_on v) rest target is then_on there =
    goes-on program words m at (at + 3) (Skips name k) code others w v 0 rest is (sym (here (at + 3))) then_on
skips program words m at name k code others w (jumps zero v) rest target is then_on there =
    goes-on program words m at (at + 3 + bytes_before code k) (Skips name k) code others w v k target is refl there
skips program words m at name k code others w e rest target is then_on there = stops program words m at (Skips name k) code others w e is

-- a switch goes to one of its targets, or the code stops there
selected-leads : (program : Program) (words m at : ℕ) (s : Table) (code : List Step) (others : List Frame) (w v : Workspace) (k : ℕ) (found : Option ℕ) → slice_get (instruction_targets (TableSwitch s)) k ≡ found → jvm_turn program words (frame_placed m (at + 0) w others) ≡ jvm_turn_by (jumps k v) m (placed_line at (Selects s) code) others → LeadsTo program words m at (Selects s ∷ code) others (frame_placed m (at + 0) w others) (selected w k v found)
selected-leads program words m at s code others w v k None e is = stops program words m at (Selects s) code others w (jumps k v) is
selected-leads program words m at s code others w v k (Some target) e is =
    one-more (jvm_turn program words) 0 (frame_placed m (at + 0) w others) (frame_placed m target v others) (is ∙ ap (λ o. jumped m o v others) e)

selects : (program : Program) (words m at : ℕ) (s : Table) (code : List Step) (others : List Frame) (w : Workspace) (e : InstructionEffect) → jvm_turn program words (frame_placed m (at + 0) w others) ≡ jvm_turn_by e m (placed_line at (Selects s) code) others → LeadsTo program words m at (Selects s ∷ code) others (frame_placed m (at + 0) w others) (after_switch w e (instruction_targets (TableSwitch s)))
selects program words m at s code others w (jumps k v) is =
    selected-leads program words m at s code others w v k (slice_get (instruction_targets (TableSwitch s)) k) refl is
selects program words m at s code others w e is = stops program words m at (Selects s) code others w e is

-- ---- the whole code

empty : (k : ℕ) → bytes_before [] k ≡ 0
empty zero = refl
empty (suc k) = refl

pub code-leads : (program : Program) (words m : ℕ) (others : List Frame) (code : List Step) (at k : ℕ) (w : Workspace) → LiesAt program m at code → LeadsTo program words m at code others (frame_placed m (at + bytes_before code k) w others) (outcome_from program words code k w)
code-leads program words m others [] at k w lies = ap (λ b. Some (frame_placed m (at + b) w others)) (empty k)
code-leads program words m others (s ∷ code) at (suc k) w lies =
    let on = code-leads program words m others code (at + width s) k w lies.1 in
    moved-on program words m at s code others (frame_placed m (at + (width s + bytes_before code k)) w others) (outcome_from program words code k w)
    (subst (λ a. LeadsTo program words m (at + width s) code others (frame_placed m a w others) (outcome_from program words code k w)) (add_assoc at (width s) (bytes_before code k)) on)
code-leads program words m others (Does instruction ∷ code) at zero w lies =
    does program words m at (Does instruction) code others w (instruction_effect program words instruction w) (outcome_from program words code 0)
    (first-turn program words m at (Does instruction) code others w lies.0)
    (λ v. code-leads program words m others code (at + width (Does instruction)) 0 v lies.1)
code-leads program words m others (Skips name k ∷ code) at zero w lies =
    skips program words m at name k code others w (branches name w) (outcome_from program words code 0) (outcome_from program words code k)
    (first-turn program words m at (Skips name k) code others w lies.0)
    (λ v. code-leads program words m others code (at + 3) 0 v lies.1)
    (λ v. code-leads program words m others code (at + 3) k v lies.1)
code-leads program words m others (Leaves target ∷ code) at zero w lies =
    one-more (jvm_turn program words) 0 (frame_placed m (at + 0) w others) (frame_placed m target w others)
    (first-turn program words m at (Leaves target) code others w lies.0)
code-leads program words m others (Selects s ∷ code) at zero w lies =
    selects program words m at s code others w (instruction_effect program words (TableSwitch s) w) (first-turn program words m at (Selects s) code others w lies.0)
