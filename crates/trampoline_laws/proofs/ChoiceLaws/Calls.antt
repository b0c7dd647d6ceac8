-- Paths through code make no calls.
use Rattle.std.proofs.Common.{◌≡◌, ℕ, zero, suc, ◌+◌, Bool, true, false, List, [], ◌∷◌, slice_get, Option, Some, None, if◌then◌else◌, refl, ap, sym, subst, ◌∙◌, arith}
use Rattle.std.specs.List.{sum_by}
use Rattle.std.proofs.lemmas.List.Sums.{sum_by-cons}
use Rattle.run_definition.specs.Turn.{moves}
use Rattle.run_simulation_laws.specs.Trail.{went, if_moves, moved}
use Rattle.jvm_definition.specs.declared.branch_name.BranchName.{BranchName}
use Rattle.jvm_definition.specs.declared.table_switch.TableSwitch.{TableSwitch as Table}
use Rattle.jvm_definition.specs.declared.kind.Kind.{Kind}
use Rattle.jvm_definition.specs.declared.value.Value.{Value}
use Rattle.jvm_definition.specs.declared.linked_method.LinkedMethod.{LinkedMethod}
use Rattle.jvm_definition.specs.declared.instruction.Instruction.{Instruction}
use Rattle.jvm_definition.specs.declared.instruction.Instruction.TheVariants.{Call, TableSwitch}
use Rattle.jvm_definition.specs.Program.{Program, linked_line_at, instruction_targets}
use Rattle.jvm_definition.specs.Values.{Heap, conforms}
use Rattle.jvm_definition.specs.Effect.{Workspace, InstructionEffect, goes_on, jumps, enters, wrong, calls, arguments, last_first, with_operands, branches, instruction_effect}
use Rattle.jvm_definition.specs.Step.{JvmState, Frame, frame_placed, jvm_turn, jvm_turn_by, jumped}
use Rattle.jvm_definition.specs.Step as machine
use Rattle.emit_steps.specs.declared.step.Step.{Step}
use Rattle.emit_steps.specs.declared.step.Step.TheVariants.{Does, Skips, Leaves, Selects}
use Rattle.emit_steps.specs.Widths.{width, bytes_before}
use Rattle.emit_steps.specs.Outcomes.{Outcome, ended, left, stopped, beyond, later, after_instruction, after_branch, selected, after_switch, outcome_from}
use Rattle.emit_steps.specs.Placing.{placed_instruction, placed_line, LiesAt}
use Rattle.emit_paths_laws.specs.Classes.{weighed, executed}
use Rattle.emit_paths_laws.specs.Paths.{LooksAtNoTarget, Path}
use Rattle.trampoline_laws.specs.Weights.{beside_calls, turns_of}

-- ---- a call does not go on

test-stops : (b : Bool) (e : InstructionEffect) (v : Workspace) → (e ≡ goes_on v → ⊥) → (if b then e else wrong) ≡ goes_on v → ⊥
test-stops true e v never is = never is
test-stops false e v never is = cc

arguments-stop : (heap : Heap) (kinds : List Kind) (operands taken : List Value) (f : List Value → List Value → InstructionEffect) (v : Workspace) → ((given below : List Value) → f given below ≡ goes_on v → ⊥) → arguments heap kinds operands taken f ≡ goes_on v → ⊥
arguments-stop heap [] operands taken f v never is = never taken operands is
arguments-stop heap (k ∷ kinds) [] taken f v never is = cc
arguments-stop heap (k ∷ kinds) (value ∷ operands) taken f v never is =
    test-stops (conforms heap k value) (arguments heap kinds operands (value ∷ taken) f) v (arguments-stop heap kinds operands (value ∷ taken) f v never) is

calls-stop : (m : ℕ) (found : Option LinkedMethod) (w v : Workspace) → calls m found w ≡ goes_on v → ⊥
calls-stop m None w v is = cc
calls-stop m (Some method) w v is =
    arguments-stop w.heap (last_first method.parameters []) w.operands [] (λ given below. enters m given (with_operands w below)) v (λ given below e. cc) is

-- so what goes on weighs the same beside calls
goes-on-beside : (program : Program) (words : ℕ) (weight : Instruction → ℕ) (i : Instruction) (w v : Workspace) → instruction_effect program words i w ≡ goes_on v → weight i ≡ beside_calls weight i
goes-on-beside program words weight (Call m) w v is = absurd (calls-stop m (program.method m) w v is)
goes-on-beside program words weight _ w v is = refl

-- ---- turns

beyond-turns : (o : Outcome) → turns_of (beyond o) ≡ turns_of o
beyond-turns (ended n w) = refl
beyond-turns (left n target w) = refl
beyond-turns (stopped n i w e) = refl

later-turns : (o : Outcome) → turns_of (later o) ≡ suc (turns_of o)
later-turns (ended n w) = refl
later-turns (left n target w) = refl
later-turns (stopped n i w e) = refl

module _ (program : Program) (words own : ℕ) (others : List Frame) (weight : Instruction → ℕ) where
  -- so many turns weigh the same beside calls
  abbrev Same : ℕ → JvmState → Type 0
  Same n x =
      sum_by (executed program weight) (moved (jvm_turn program words) n x) ≡ sum_by (executed program (beside_calls weight)) (moved (jvm_turn program words) n x)

  -- a line, and what it weighs
  module _ (a at : ℕ) (s : Step) (code : List Step) (w : Workspace) (here : a ≡ at) (stands : linked_line_at program own at ≡ Some (placed_line at s code)) where
    stands-here : linked_line_at program own a ≡ Some (placed_line at s code)
    stands-here = ap (linked_line_at program own) here ∙ stands

    first-turn : jvm_turn program words (frame_placed own a w others) ≡ jvm_turn_by (instruction_effect program words (placed_line at s code).instruction w) own (placed_line at s code) others
    first-turn = ap (machine.executed_line program words (frame_placed own a w others) (record { method = own; at = a; locals = w.locals; operands = w.operands }) others) stands-here

    more : (n : ℕ) (y : JvmState) → jvm_turn program words (frame_placed own a w others) ≡ moves y → weight (placed_instruction at s code) ≡ beside_calls weight (placed_instruction at s code) → Same n y → Same (suc n) (frame_placed own a w others)
    more n y is one rest =
        let x = frame_placed own a w others in
        let trail : moved (jvm_turn program words) (suc n) x ≡ went x y ∷ moved (jvm_turn program words) n y = ap (λ t. if_moves t [] (λ u. went x u ∷ moved (jvm_turn program words) n u)) is in
        let same : executed program weight (went x y) ≡ executed program (beside_calls weight) (went x y) = ap (weighed weight) stands-here ∙ one ∙ sym (ap (weighed (beside_calls weight)) stands-here) in
        let first = ap (sum_by (executed program weight)) trail ∙ sum_by-cons (executed program weight) (went x y) (moved (jvm_turn program words) n y) in
        let second = ap (sum_by (executed program (beside_calls weight))) trail ∙ sum_by-cons (executed program (beside_calls weight)) (went x y) (moved (jvm_turn program words) n y) in
        omega (arith, first, second, same, rest)

    -- by the outcome behind it
    more-later : (o : Outcome) (y : JvmState) → jvm_turn program words (frame_placed own a w others) ≡ moves y → weight (placed_instruction at s code) ≡ beside_calls weight (placed_instruction at s code) → Same (turns_of o) y → Same (turns_of (later o)) (frame_placed own a w others)
    more-later o y is one rest = subst (λ n. Same n (frame_placed own a w others)) (sym (later-turns o)) (more (turns_of o) y is one rest)

  -- ---- one step

  -- the rest of the code, from its k-th step on
  abbrev Rest : ℕ → List Step → ℕ → Type 0
  Rest at code k = (v : Workspace) → Same (turns_of (outcome_from program words code k v)) (frame_placed own (at + bytes_before code k) v others)

  does : (a at : ℕ) (instruction : Instruction) (code : List Step) (w : Workspace) (e : InstructionEffect) → a ≡ at → linked_line_at program own at ≡ Some (placed_line at (Does instruction) code) → instruction_effect program words instruction w ≡ e → Rest (at + width (Does instruction)) code 0 → Same (turns_of (after_instruction w e (outcome_from program words code 0))) (frame_placed own a w others)
  does a at instruction code w (goes_on v) here stands is rest =
      let next : at + width (Does instruction) ≡ at + width (Does instruction) + 0 = omega arith in
      more-later a at (Does instruction) code w here stands (outcome_from program words code 0 v) (frame_placed own (at + width (Does instruction) + 0) v others)
      (first-turn a at (Does instruction) code w here stands ∙ ap (λ f. jvm_turn_by f own (placed_line at (Does instruction) code) others) is ∙ ap (λ b. moves (frame_placed own b v others)) next)
      (goes-on-beside program words weight instruction w v is)
      (rest v)
  does a at instruction code w e here stands is rest = refl

  skips : (a at : ℕ) (name : BranchName) (k : ℕ) (code : List Step) (w : Workspace) (e : InstructionEffect) → a ≡ at → linked_line_at program own at ≡ Some (placed_line at (Skips name k) code) → branches name w ≡ e → Rest (at + 3) code 0 → Rest (at + 3) code k → Same (turns_of (after_branch w e (outcome_from program words code 0) (outcome_from program words code k))) (frame_placed own a w others)
  skips a at name k code w (goes_on v) here stands is rest target =
      let next : at + 3 ≡ at + 3 + 0 = omega arith in
      more-later a at (Skips name k) code w here stands (outcome_from program words code 0 v) (frame_placed own (at + 3 + 0) v others)
      (first-turn a at (Skips name k) code w here stands ∙ ap (λ f. jvm_turn_by f own (placed_line at (Skips name k) code) others) is ∙ ap (λ b. moves (frame_placed own b v others)) next)
      refl
      (rest v)
  skips a at name k code w (jumps zero v) here stands is rest target =
      more-later a at (Skips name k) code w here stands (outcome_from program words code k v) (frame_placed own (at + 3 + bytes_before code k) v others)
      (first-turn a at (Skips name k) code w here stands ∙ ap (λ f. jvm_turn_by f own (placed_line at (Skips name k) code) others) is)
      refl
      (target v)
  skips a at name k code w e here stands is rest target = refl

  selects : (a at : ℕ) (s : Table) (code : List Step) (w : Workspace) (e : InstructionEffect) → a ≡ at → linked_line_at program own at ≡ Some (placed_line at (Selects s) code) → instruction_effect program words (TableSwitch s) w ≡ e → Same (turns_of (after_switch w e (instruction_targets (TableSwitch s)))) (frame_placed own a w others)
  selects a at s code w (jumps k v) here stands is = by_target (slice_get (instruction_targets (TableSwitch s)) k) refl
    where
      by_target : (found : Option ℕ) → slice_get (instruction_targets (TableSwitch s)) k ≡ found → Same (turns_of (selected w k v found)) (frame_placed own a w others)
      by_target None e = refl
      by_target (Some target) e =
          more a at (Selects s) code w here stands 0 (frame_placed own target v others)
          (first-turn a at (Selects s) code w here stands ∙ ap (λ f. jvm_turn_by f own (placed_line at (Selects s) code) others) is ∙ ap (λ o. jumped own o v others) e)
          refl
          refl
  selects a at s code w e here stands is = refl

  -- ---- the whole code

  code-same : (code : List Step) (at k a : ℕ) (w : Workspace) → a ≡ at + bytes_before code k → LiesAt program own at code → Same (turns_of (outcome_from program words code k w)) (frame_placed own a w others)
  code-same [] at k a w here lies = refl
  code-same (s ∷ code) at (suc k) a w here lies =
      subst (λ n. Same n (frame_placed own a w others)) (sym (beyond-turns (outcome_from program words code k w)))
      (code-same code (at + width s) k a w (omega (arith, here)) lies.1)
  code-same (Does instruction ∷ code) at zero a w here lies =
      does a at instruction code w (instruction_effect program words instruction w) (omega (arith, here)) lies.0 refl
      (λ v. code-same code (at + width (Does instruction)) 0 (at + width (Does instruction) + bytes_before code 0) v refl lies.1)
  code-same (Skips name k ∷ code) at zero a w here lies =
      skips a at name k code w (branches name w) (omega (arith, here)) lies.0 refl
      (λ v. code-same code (at + 3) 0 (at + 3 + bytes_before code 0) v refl lies.1)
      (λ v. code-same code (at + 3) k (at + 3 + bytes_before code k) v refl lies.1)
  code-same (Leaves target ∷ code) at zero a w here lies =
      let same : a ≡ at = omega (arith, here) in
      more a at (Leaves target) code w same lies.0 0 (frame_placed own target w others) (first-turn a at (Leaves target) code w same lies.0) refl refl
  code-same (Selects s ∷ code) at zero a w here lies =
      selects a at s code w (instruction_effect program words (TableSwitch s) w) (omega (arith, here)) lies.0 refl

-- ---- paths

still-beside : (weight : Instruction → ℕ) → LooksAtNoTarget weight → LooksAtNoTarget (beside_calls weight)
still-beside weight still = still

pub path-beside : (program : Program) (words own m low high at k n : ℕ) (total : (Instruction → ℕ) → ℕ) (code : List Step) (w : Workspace) (others : List Frame) (y : JvmState) → LiesAt program own at code → turns_of (outcome_from program words code k w) ≡ n → Path program words m low high n total (frame_placed own (at + bytes_before code k) w others) y → Path program words m low high n (λ weight. total (beside_calls weight)) (frame_placed own (at + bytes_before code k) w others) y
path-beside program words own m low high at k n total code w others y lies is path = record {
  comes = path.comes;
  counts = λ weight still.
      let less = path.counts (beside_calls weight) (still-beside weight still) in
      let x = frame_placed own (at + bytes_before code k) w others in
      let same = subst (λ t. Same program words own others weight t x) is (code-same program words own others weight code at k (at + bytes_before code k) w refl lies) in
      omega (arith, less, same);
  rises = path.rises;
}
