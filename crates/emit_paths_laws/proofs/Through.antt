-- Code that lies in a method is a path, seen from that method and from another.
use Rattle.std.proofs.Common.{◌≡◌, ℕ, zero, suc, ◌+◌, ◌<◌, List, [], ◌∷◌, take, drop, slice_get, Option, Some, None, refl, ap, subst, sym, ◌∙◌, arith}
use Rattle.std.proofs.Math.Nat.{add_assoc}
use Rattle.run_definition.specs.Turn.{moves}
use Rattle.run_simulation_laws.specs.Trail.{went}
use Rattle.run_simulation_laws.specs.Places.{Rises, visit}
use Rattle.jvm_definition.specs.declared.branch_name.BranchName.{BranchName}
use Rattle.jvm_definition.specs.declared.table_switch.TableSwitch.{TableSwitch as Table}
use Rattle.jvm_definition.specs.declared.instruction.Instruction.{Instruction}
use Rattle.jvm_definition.specs.declared.instruction.Instruction.TheVariants.{TableSwitch}
use Rattle.jvm_definition.specs.Program.{Program, linked_line_at, instruction_targets}
use Rattle.jvm_definition.specs.Effect.{Workspace, InstructionEffect, goes_on, jumps, branches, instruction_effect}
use Rattle.jvm_definition.specs.Step.{JvmState, Frame, frame_placed, jvm_turn, jvm_turn_by, jumped}
use Rattle.jvm_definition.specs.Step as machine
use Rattle.emit_steps.specs.declared.step.Step.{Step}
use Rattle.emit_steps.specs.declared.step.Step.TheVariants.{Does, Skips, Leaves, Selects}
use Rattle.emit_steps.specs.Widths.{width, bytes_before, size}
use Rattle.emit_steps.specs.Outcomes.{Outcome, ended, left, stopped, beyond, later, after_instruction, after_branch, selected, after_switch, outcome_from}
use Rattle.emit_steps.specs.Placing.{placed_line, LiesAt}
use Rattle.emit_steps.specs.Leading.{LeadsTo}
use Rattle.emit_steps.proofs.WidthLemmas.{width-some}
use Rattle.emit_paths_laws.specs.Classes.{weighed, executed, place_in}
use Rattle.emit_paths_laws.specs.Paths.{step_weight, weigh, Path, PathTo}
use Rattle.emit_paths_laws.proofs.Joining.{paths-join, no-turns, path-wider, turn-path}
use Rattle.emit_paths_laws.proofs.Weighing.{weigh-back, laid-weighs}

here : (at : ℕ) → at + 0 ≡ at
here at = omega arith

-- the machine's turn at the first step of the code
first-turn : (program : Program) (words m at : ℕ) (s : Step) (code : List Step) (others : List Frame) (w : Workspace) → linked_line_at program m at ≡ Some (placed_line at s code) → jvm_turn program words (frame_placed m (at + 0) w others) ≡ jvm_turn_by (instruction_effect program words (placed_line at s code).instruction w) m (placed_line at s code) others
first-turn program words m at s code others w stands =
    ap (λ a. jvm_turn program words (frame_placed m a w others)) (here at)
    ∙ ap (machine.executed_line program words (frame_placed m at w others) (record { method = m; at = at; locals = w.locals; operands = w.operands }) others) stands

module _ (program : Program) (words own m : ℕ) (high : ℕ → ℕ) (others : List Frame) (one : (a b : ℕ) (w : Workspace) → a < b → Rises (high a) (visit (place_in m (frame_placed own a w others)) []) (high b)) where
  -- a path from the k-th step to where an outcome leads
  abbrev To : (low at k : ℕ) → List Step → JvmState → Outcome → Type 0
  To low at k code x (ended n w) =
      Path program words m low (high (at + size code)) n (λ weight. weigh weight (drop k code)) x (frame_placed own (at + size code) w others)
  To low at k code x (left n target w) =
      Path program words m low (high (at + size code)) n (λ weight. weigh weight (drop k code)) x (frame_placed own target w others)
  To low at k code x (stopped n i w e) =
      Path program words m low (high (at + bytes_before code i)) n (λ weight. weigh weight (drop k (take i code))) x (frame_placed own (at + bytes_before code i) w others)

  -- ---- code behind a step

  -- a turn at a step, and a path from the k-th step of what lies behind it, weigh no more than both
  passed-through : (low middle top n k : ℕ) (s : Step) (rest : List Step) (z x y : JvmState) → Path program words m low middle 1 (λ weight. step_weight weight s) z x → Path program words m middle top n (λ weight. weigh weight (drop k rest)) x y → Path program words m low top (suc n) (λ weight. weigh weight (s ∷ rest)) z y
  passed-through low middle top n k s rest z x y first next =
      let turns : 1 + n ≡ suc n = omega arith in
      subst (λ i. Path program words m low top i (λ weight. weigh weight (s ∷ rest)) z y) turns
      (path-wider program words m low top low top (1 + n) (λ weight. step_weight weight s + weigh weight (drop k rest)) (λ weight. weigh weight (s ∷ rest)) z y (omega arith) (omega arith) (λ weight still. let less = weigh-back weight k rest in omega (arith, less))
      (paths-join program words m low middle top 1 n (λ weight. step_weight weight s) (λ weight. weigh weight (drop k rest)) z x y first next))

  further : (low n at by b : ℕ) (total : (Instruction → ℕ) → ℕ) (x : JvmState) (w : Workspace) → Path program words m low (high (at + by + b)) n total x (frame_placed own (at + by + b) w others) → Path program words m low (high (at + (by + b))) n total x (frame_placed own (at + (by + b)) w others)
  further low n at by b total x w path =
      subst (λ a. Path program words m low (high a) n total x (frame_placed own a w others)) (add_assoc at by b) path

  further-high : (low n at by b : ℕ) (total : (Instruction → ℕ) → ℕ) (x y : JvmState) → Path program words m low (high (at + by + b)) n total x y → Path program words m low (high (at + (by + b))) n total x y
  further-high low n at by b total x y path =
      subst (λ a. Path program words m low (high a) n total x y) (add_assoc at by b) path

  over : (low at k : ℕ) (s : Step) (code : List Step) (x : JvmState) (o : Outcome) → To low (at + width s) k code x o → To low at (suc k) (s ∷ code) x (beyond o)
  over low at k s code x (ended n w) way =
      further low n at (width s) (size code) (λ weight. weigh weight (drop k code)) x w way
  over low at k s code x (left n target w) way =
      further-high low n at (width s) (size code) (λ weight. weigh weight (drop k code)) x (frame_placed own target w others) way
  over low at k s code x (stopped n i w e) way =
      further low n at (width s) (bytes_before code i) (λ weight. weigh weight (drop k (take i code))) x w way

  behind : (low middle at k : ℕ) (s : Step) (code : List Step) (z x : JvmState) (o : Outcome) → Path program words m low middle 1 (λ weight. step_weight weight s) z x → To middle (at + width s) k code x o → To low at 0 (s ∷ code) z (later o)
  behind low middle at k s code z x (ended n w) first way =
      passed-through low middle (high (at + (width s + size code))) n k s code z x (frame_placed own (at + (width s + size code)) w others) first
      (further middle n at (width s) (size code) (λ weight. weigh weight (drop k code)) x w way)
  behind low middle at k s code z x (left n target w) first way =
      passed-through low middle (high (at + (width s + size code))) n k s code z x (frame_placed own target w others) first
      (further-high middle n at (width s) (size code) (λ weight. weigh weight (drop k code)) x (frame_placed own target w others) way)
  behind low middle at k s code z x (stopped n i w e) first way =
      passed-through low middle (high (at + (width s + bytes_before code i))) n k s (take i code) z x (frame_placed own (at + (width s + bytes_before code i)) w others) first
      (further middle n at (width s) (bytes_before code i) (λ weight. weigh weight (drop k (take i code))) x w way)

  -- ---- one step

  step-path : (at top : ℕ) (s : Step) (code : List Step) (w : Workspace) (y : JvmState) → linked_line_at program own at ≡ Some (placed_line at s code) → jvm_turn program words (frame_placed own (at + 0) w others) ≡ moves y → at < top → Path program words m (high (at + 0)) (high top) 1 (λ weight. step_weight weight s) (frame_placed own (at + 0) w others) y
  step-path at top s code w y stands is less =
      turn-path program words m (high (at + 0)) (high top) (λ weight. step_weight weight s) (frame_placed own (at + 0) w others) y is
      (λ weight still. let a : executed program weight (went (frame_placed own (at + 0) w others) y) ≡ step_weight weight s = ap (λ b. weighed weight (linked_line_at program own b)) (here at) ∙ ap (weighed weight) stands ∙ laid-weighs weight still at s code in omega (arith, a))
      (one (at + 0) top w (omega arith))

  stops : (at : ℕ) (s : Step) (code : List Step) (w : Workspace) (e : InstructionEffect) → To (high (at + 0)) at 0 (s ∷ code) (frame_placed own (at + 0) w others) (stopped 0 0 w e)
  stops at s code w e =
      no-turns program words m (high (at + 0)) (high (at + 0)) (frame_placed own (at + 0) w others) (omega arith)

  leaves : (at target : ℕ) (s : Step) (code : List Step) (w v : Workspace) → linked_line_at program own at ≡ Some (placed_line at s code) → jvm_turn program words (frame_placed own (at + 0) w others) ≡ moves (frame_placed own target v others) → To (high (at + 0)) at 0 (s ∷ code) (frame_placed own (at + 0) w others) (left 1 target v)
  leaves at target s code w v stands is =
      let some = width-some s in
      let top = high (at + (width s + size code)) in
      path-wider program words m (high (at + 0)) top (high (at + 0)) top 1 (λ weight. step_weight weight s) (λ weight. weigh weight (s ∷ code)) (frame_placed own (at + 0) w others) (frame_placed own target v others) (omega arith) (omega arith) (λ weight still. omega arith)
      (step-path at (at + (width s + size code)) s code w (frame_placed own target v others) stands is (omega arith))

  -- the rest of the code, wherever it is begun
  abbrev Rest : ℕ → List Step → ℕ → (Workspace → Outcome) → Type 0
  Rest at code k rest =
      (v : Workspace) → To (high (at + bytes_before code k)) at k code (frame_placed own (at + bytes_before code k) v others) (rest v)

  goes-on : (at to : ℕ) (s : Step) (code : List Step) (w v : Workspace) (k : ℕ) (rest : Workspace → Outcome) → linked_line_at program own at ≡ Some (placed_line at s code) → jvm_turn program words (frame_placed own (at + 0) w others) ≡ moves (frame_placed own to v others) → to ≡ at + width s + bytes_before code k → Rest (at + width s) code k rest → To (high (at + 0)) at 0 (s ∷ code) (frame_placed own (at + 0) w others) (later (rest v))
  goes-on at to s code w v k rest stands is place then_on =
      let some = width-some s in
      let next = at + width s + bytes_before code k in
      behind (high (at + 0)) (high next) at k s code (frame_placed own (at + 0) w others) (frame_placed own next v others) (rest v)
      (step-path at next s code w (frame_placed own next v others) stands (is ∙ ap (λ a. moves (frame_placed own a v others)) place) (omega arith))
      (then_on v)

  does : (at : ℕ) (s : Step) (code : List Step) (w : Workspace) (e : InstructionEffect) (rest : Workspace → Outcome) → linked_line_at program own at ≡ Some (placed_line at s code) → jvm_turn program words (frame_placed own (at + 0) w others) ≡ jvm_turn_by e own (placed_line at s code) others → Rest (at + width s) code 0 rest → To (high (at + 0)) at 0 (s ∷ code) (frame_placed own (at + 0) w others) (after_instruction w e rest)
  does at s code w (goes_on v) rest stands is then_on =
      goes-on at (at + width s) s code w v 0 rest stands is (sym (here (at + width s))) then_on
  does at s code w e rest stands is then_on = stops at s code w e

  skips : (at : ℕ) (name : BranchName) (k : ℕ) (code : List Step) (w : Workspace) (e : InstructionEffect) (rest target : Workspace → Outcome) → linked_line_at program own at ≡ Some (placed_line at (Skips name k) code) → jvm_turn program words (frame_placed own (at + 0) w others) ≡ jvm_turn_by e own (placed_line at (Skips name k) code) others → Rest (at + 3) code 0 rest → Rest (at + 3) code k target → To (high (at + 0)) at 0 (Skips name k ∷ code) (frame_placed own (at + 0) w others) (after_branch w e rest target)
  skips at name k code w (goes_on v) rest target stands is then_on there =
      goes-on at (at + 3) (Skips name k) code w v 0 rest stands is (sym (here (at + 3))) then_on
  skips at name k code w (jumps zero v) rest target stands is then_on there =
      goes-on at (at + 3 + bytes_before code k) (Skips name k) code w v k target stands is refl there
  skips at name k code w e rest target stands is then_on there = stops at (Skips name k) code w e

  selected-leads : (at : ℕ) (s : Table) (code : List Step) (w v : Workspace) (k : ℕ) (found : Option ℕ) → slice_get (instruction_targets (TableSwitch s)) k ≡ found → linked_line_at program own at ≡ Some (placed_line at (Selects s) code) → jvm_turn program words (frame_placed own (at + 0) w others) ≡ jvm_turn_by (jumps k v) own (placed_line at (Selects s) code) others → To (high (at + 0)) at 0 (Selects s ∷ code) (frame_placed own (at + 0) w others) (selected w k v found)
  selected-leads at s code w v k None e stands is = stops at (Selects s) code w (jumps k v)
  selected-leads at s code w v k (Some target) e stands is =
      leaves at target (Selects s) code w v stands (is ∙ ap (λ o. jumped own o v others) e)

  selects : (at : ℕ) (s : Table) (code : List Step) (w : Workspace) (e : InstructionEffect) → linked_line_at program own at ≡ Some (placed_line at (Selects s) code) → jvm_turn program words (frame_placed own (at + 0) w others) ≡ jvm_turn_by e own (placed_line at (Selects s) code) others → To (high (at + 0)) at 0 (Selects s ∷ code) (frame_placed own (at + 0) w others) (after_switch w e (instruction_targets (TableSwitch s)))
  selects at s code w (jumps k v) stands is =
      selected-leads at s code w v k (slice_get (instruction_targets (TableSwitch s)) k) refl stands is
  selects at s code w e stands is = stops at (Selects s) code w e

  -- ---- the whole code

  code-goes : (code : List Step) (at k : ℕ) (w : Workspace) → LiesAt program own at code → To (high (at + bytes_before code k)) at k code (frame_placed own (at + bytes_before code k) w others) (outcome_from program words code k w)
  code-goes [] at zero w lies =
      no-turns program words m (high (at + 0)) (high (at + 0)) (frame_placed own (at + 0) w others) (omega arith)
  code-goes [] at (suc k) w lies =
      no-turns program words m (high (at + 0)) (high (at + 0)) (frame_placed own (at + 0) w others) (omega arith)
  code-goes (s ∷ code) at (suc k) w lies =
      let on = code-goes code (at + width s) k w lies.1 in
      over (high (at + (width s + bytes_before code k))) at k s code (frame_placed own (at + (width s + bytes_before code k)) w others) (outcome_from program words code k w)
      (subst (λ a. To (high a) (at + width s) k code (frame_placed own a w others) (outcome_from program words code k w)) (add_assoc at (width s) (bytes_before code k)) on)
  code-goes (Does instruction ∷ code) at zero w lies =
      does at (Does instruction) code w (instruction_effect program words instruction w) (outcome_from program words code 0) lies.0
      (first-turn program words own at (Does instruction) code others w lies.0)
      (λ v. code-goes code (at + width (Does instruction)) 0 v lies.1)
  code-goes (Skips name k ∷ code) at zero w lies =
      skips at name k code w (branches name w) (outcome_from program words code 0) (outcome_from program words code k) lies.0
      (first-turn program words own at (Skips name k) code others w lies.0)
      (λ v. code-goes code (at + 3) 0 v lies.1)
      (λ v. code-goes code (at + 3) k v lies.1)
  code-goes (Leaves target ∷ code) at zero w lies =
      leaves at target (Leaves target) code w w lies.0 (first-turn program words own at (Leaves target) code others w lies.0)
  code-goes (Selects s ∷ code) at zero w lies =
      selects at s code w (instruction_effect program words (TableSwitch s) w) lies.0 (first-turn program words own at (Selects s) code others w lies.0)

  -- with what is known of the step where it stops
  with-stop : (low at k : ℕ) (code : List Step) (x : JvmState) (o : Outcome) → To low at k code x o → LeadsTo program words own at code others x o → PathTo program words own m low high at k code others x o
  with-stop low at k code x (ended n w) way leads = way
  with-stop low at k code x (left n target w) way leads = way
  with-stop low at k code x (stopped n i w e) way leads = (way, leads.1)

  pub code-path : (code : List Step) (at k : ℕ) (w : Workspace) → LiesAt program own at code → LeadsTo program words own at code others (frame_placed own (at + bytes_before code k) w others) (outcome_from program words code k w) → PathTo program words own m (high (at + bytes_before code k)) high at k code others (frame_placed own (at + bytes_before code k) w others) (outcome_from program words code k w)
  code-path code at k w lies leads =
      with-stop (high (at + bytes_before code k)) at k code (frame_placed own (at + bytes_before code k) w others) (outcome_from program words code k w) (code-goes code at k w lies) leads
