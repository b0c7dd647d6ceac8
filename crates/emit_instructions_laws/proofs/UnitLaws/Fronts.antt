-- What the code of a branch or jump does up to its slot, or past it.
use Rattle.std.proofs.Common.{◌≡◌, ℕ, suc, ◌+◌, ◌%◌, ◌^◌, ◌≤◌, Bool, true, false, List, [], ◌∷◌, ◌++◌, length, drop, Option, Some, None, IsTrue, append_assoc, refl, ap, subst, sym, length-append, arith}
use Rattle.std.proofs.lemmas.List.{append-nil}
use Rattle.run_definition.specs.declared.order.Order.{Order}
use Rattle.run_definition.specs.Turn.{Turn, moves}
use Rattle.mips_definition.specs.State.{State}
use Rattle.mips_definition.specs.Step.{into_slot, past_slot}
use Rattle.jvm_definition.specs.declared.branch_name.BranchName.{BranchName}
use Rattle.jvm_definition.specs.declared.branch_name.BranchName.TheVariants.{Goto}
use Rattle.jvm_definition.specs.declared.value.Value.{Value}
use Rattle.jvm_definition.specs.declared.instruction.Instruction.{Instruction}
use Rattle.jvm_definition.specs.Effect.{Workspace, with_operands, branches, chooses}
use Rattle.emit_steps.specs.declared.step.Step.{Step}
use Rattle.emit_steps.specs.declared.step.Step.TheVariants.{Skips}
use Rattle.emit_steps.specs.Widths.{bytes_before, size}
use Rattle.emit_steps.specs.Outcomes.{ended, later, outcome, stays_within}
use Rattle.emit_steps.specs.Placing.{LiesAt}
use Rattle.emit_instructions.specs.Branching.{goes_to_code, link_code}
use Rattle.emit_simulation_laws.specs.Knowing.{AreNumbers}
use Rattle.emit_paths_laws.specs.Paths.{step_weight}
use Rattle.emit_paths_laws.proofs.Joining.{paths-join}
use Rattle.emit_simulation_laws.specs.Behind.{IsSettled}
use Rattle.emit_simulation_laws.specs.Holding.{HoldsOn}
use Rattle.emit_simulation_laws.specs.Sites.{Site, PathIn, stands, whole_weight}
use Rattle.emit_simulation_laws.specs.Following.{ComesToEnd}
use Rattle.emit_simulation_laws.specs.Laws.{PathLaws}
use Rattle.emit_simulation_laws.proofs.GuestFollows.CodeLaws.{code-laws}
use Rattle.emit_simulation_laws.proofs.GuestFollows.Weights.{whole-both, size-both}
use Rattle.emit_instructions_laws.proofs.UnitLaws.Joining.{end-after}
use Rattle.emit_instructions_laws.proofs.UnitLaws.Links.{HasPut, has-settled, settled-put, has-pushed, pushed-ends, linked_workspace, link_written, link_state, link_turns, gone, goal-ends, few-links}
use Rattle.emit_instructions_laws.proofs.UnitLaws.Reaching.{ReachesSlot, front-reaches}
use Rattle.emit_instructions_laws.proofs.UnitLaws.Within.{within-goal, within-link}
use Rattle.emit_instructions_laws.proofs.UnitLaws.Suffixes.{suffix-lies, size-split, whole-drop, bytes-all, passed-path, taken-path}

-- the branch is done, and the guest comes to its slot
pub record GoesIn (site : Site) (order : Order) (bank : ℕ) (known : ℕ → Bool) (link : Option ℕ) (Goal : Workspace → ℕ → Type 0) (at : ℕ) (w : Workspace) (x : State) (code slot : List Step) (last : Turn State) : Type 0 where
  pub target : ℕ
  pub done_is : last ≡ moves (into_slot (link_state link x) target)
  pub reaches : ReachesSlot site order (λ u. HasPut bank known link Goal target w u x) 16 at w code slot

-- code comes to its end past the code of a slot that lies in it, and weighs nothing of that
pub record ComesPast (site : Site) (order : Order) (at : ℕ) (w : Workspace) (code slot : List Step) (Arrives : Workspace → Type 0) : Type 0 where
  pub total : (Instruction → ℕ) → ℕ
  pub weighs : (weight : Instruction → ℕ) → total weight + whole_weight order slot weight ≤ whole_weight order code weight
  pub comes : ComesToEnd site at (at + size code) 1 132 total Arrives (stands site at w)

-- a likely branch is done that is not taken, and the guest goes on behind its slot
pub record PassesOver (site : Site) (order : Order) (bank : ℕ) (known : ℕ → Bool) (link : Option ℕ) (Goal : Workspace → ℕ → Type 0) (at : ℕ) (w : Workspace) (x : State) (code slot : List Step) (last : Turn State) : Type 0 where
  pub done_is : last ≡ moves (past_slot (link_state link x))
  pub past : ComesPast site order at w code slot (λ u. HasPut bank known link Goal ((x.pc + 8) % 2 ^ 32) w u x)

module _ (laws : PathLaws) (site : Site) (order : Order) (bank : ℕ) (known : ℕ → Bool) (link : Option ℕ) (w : Workspace) (x : State) (numbers : AreNumbers (link_written link)) (h : HoldsOn bank known w x) where
  -- ---- what says the goal is pushed. So many steps push it.

  module _ (before : List Value) (pushes : List Step) (more : ℕ → ℕ) (pushed : (code : List Step) (n : ℕ) (v : Workspace) → outcome site.program site.words code (with_operands w before) ≡ ended n v → outcome site.program site.words (pushes ++ code) w ≡ ended (more n) v) (pushes_within : (code : List Step) → IsTrue (stays_within code) → IsTrue (stays_within (pushes ++ code))) (few : (n : ℕ) → more n ≤ n + 2) (some : (n : ℕ) → 1 ≤ more n) where
    pub pushes-reach : (Goal : Workspace → ℕ → Type 0) (target at : ℕ) (slot : List Step) → ((u : Workspace) → u.operands ≡ before → Goal u target) → LiesAt site.program site.method at (pushes ++ (link_code bank link x.pc ++ slot)) → ReachesSlot site order (λ u. HasPut bank known link Goal target w u x) 16 at w (pushes ++ (link_code bank link x.pc ++ slot)) slot
    pushes-reach Goal target at slot says lies =
        let link_steps = link_code bank link x.pc in
        let n = link_turns link in
        let links = few-links link in
        let most = few n in
        let same = append_assoc pushes link_steps slot in
        let after = linked_workspace bank link x.pc (with_operands w before) in
        subst (λ code. ReachesSlot site order (λ u. HasPut bank known link Goal target w u x) 16 at w code slot) same
        (front-reaches laws site order (λ u. HasPut bank known link Goal target w u x) 16 at (more n) w after (pushes ++ link_steps) slot
        (pushes_within link_steps (within-link bank x.pc link)) (subst (LiesAt site.program site.method at) (sym same) lies)
        (pushed link_steps n after (pushed-ends site.program site.words bank x.pc link (with_operands w before)))
        (some n) (omega (arith, links, most)) (has-pushed bank target known link Goal w x before numbers h says))

  -- ---- likely branches. So many steps push what is compared.

  module _ (test : BranchName) (target behind : ℕ) (before : List Value) (pushes : List Step) (more : ℕ → ℕ) (pushed : (code : List Step) (n : ℕ) (v : Workspace) → outcome site.program site.words code (with_operands w before) ≡ ended n v → outcome site.program site.words (pushes ++ code) w ≡ ended (more n) v) (pushes_within : (code : List Step) → IsTrue (stays_within code) → IsTrue (stays_within (pushes ++ code))) (few : (n : ℕ) → more n ≤ n + 2) where
    module _ (slot : List Step) where
      abbrev front : List Step
      front = goes_to_code target ++ link_code bank link x.pc

      abbrev tail : List Step
      tail = front ++ slot

      abbrev over : ℕ
      over = 4 + length (link_code bank link x.pc) + length slot

      abbrev middle : List Step
      middle = goes_to_code behind ++ link_code bank link x.pc ++ Skips Goto over ∷ tail

      abbrev target_step : ℕ
      target_step = 5 + length (link_code bank link x.pc)

      abbrev likely : List Step
      likely = Skips test target_step ∷ middle

      over-all : over ≡ length tail
      over-all = omega (arith, length-append front slot, length-append (goes_to_code target) (link_code bank link x.pc))

      -- what the pushes leave
      nil-within : IsTrue (stays_within (pushes ++ [])) → IsTrue (stays_within pushes)
      nil-within within = subst (λ code. IsTrue (stays_within code)) (append-nil pushes) within

      nil-runs : outcome site.program site.words (pushes ++ []) w ≡ ended (more 0) (with_operands w before) → outcome site.program site.words pushes w ≡ ended (more 0) (with_operands w before)
      nil-runs runs = subst (λ code. outcome site.program site.words code w ≡ ended (more 0) (with_operands w before)) (append-nil pushes) runs

      pushes-come : (at : ℕ) → LiesAt site.program site.method at pushes → ComesToEnd site at (at + size pushes) 0 2 (whole_weight order pushes) (λ u. u ≡ with_operands w before) (stands site at w)
      pushes-come at lies =
          (code-laws laws).end_follows site order at 0 2 (more 0) pushes w (with_operands w before) (λ u. u ≡ with_operands w before) lies (nil-runs (pushed [] 0 (with_operands w before) refl)) (omega arith) (let most = few 0 in omega (arith, most)) refl

      -- it is not taken
      abbrev goal_code : List Step
      goal_code = goes_to_code behind ++ link_code bank link x.pc

      pub likely-passes : (at : ℕ) → branches test (with_operands w before) ≡ chooses false (with_operands w before) w.operands → LiesAt site.program site.method at (pushes ++ likely) → ComesPast site order at w (pushes ++ likely) slot (λ u. HasPut bank known link (IsSettled w) behind w u x)
      likely-passes at is lies =
          let after = gone bank link x.pc w behind in
          let parts = laws.parts site.program site.method at pushes likely (nil-within (pushes_within [] refl)) lies in
          let branch_at = at + size pushes in
          let goal_at = branch_at + 3 in
          let halves = laws.parts site.program site.method goal_at goal_code (Skips Goto over ∷ tail) (within-goal bank x.pc link) parts.1.1 in
          let skip_at = goal_at + size goal_code in
          let end = skip_at + 3 + bytes_before tail over in
          let first = pushes-come at parts.0 in
          let first_path = subst (λ u. PathIn site at branch_at first.turns (whole_weight order pushes) (stands site at w) (stands site branch_at u)) first.arrives first.path in
          let passed = passed-path site branch_at target_step test middle (with_operands w before) w parts.1 is in
          let goal = (code-laws laws).end_follows site order goal_at 0 6 (suc (suc (suc (suc (link_turns link))))) goal_code w after (λ u. u ≡ after) halves.0 (ap later (goal-ends site.program site.words bank x.pc behind link w)) (omega arith) (let links = few-links link in omega (arith, links)) refl in
          let goal_path = subst (λ u. PathIn site goal_at skip_at goal.turns (whole_weight order goal_code) (stands site goal_at w) (stands site skip_at u)) goal.arrives goal.path in
          let skipped = taken-path site skip_at over Goto tail after after halves.1 refl in
          let test_total = λ (weight : Instruction → ℕ). step_weight weight (Skips test target_step) in
          let skip_total = λ (weight : Instruction → ℕ). step_weight weight (Skips Goto over) in
          let to_goal = paths-join site.program site.words site.method at branch_at goal_at first.turns 1 (whole_weight order pushes) test_total (stands site at w) (stands site branch_at (with_operands w before)) (stands site goal_at w) first_path passed in
          let to_end = paths-join site.program site.words site.method goal_at skip_at end goal.turns 1 (whole_weight order goal_code) skip_total (stands site goal_at w) (stands site skip_at after) (stands site end after) goal_path skipped in
          let whole = paths-join site.program site.words site.method at goal_at end (first.turns + 1) (goal.turns + 1) (λ weight. whole_weight order pushes weight + test_total weight) (λ weight. whole_weight order goal_code weight + skip_total weight) (stands site at w) (stands site goal_at w) (stands site end after) to_goal to_end in
          let sizes = size-both pushes likely in
          let more_sizes = size-both goal_code (Skips Goto over ∷ tail) in
          let all = bytes-all tail in
          let same : bytes_before tail over ≡ bytes_before tail (length tail) = ap (bytes_before tail) over-all in
          let ends : end ≡ at + size (pushes ++ likely) = omega (arith, sizes, more_sizes, all, same) in
          let early = first.in_time in
          let soon = goal.in_time in
          record {
            total = λ weight. whole_weight order pushes weight + test_total weight + (whole_weight order goal_code weight + skip_total weight);
            weighs = λ weight.
                let a = whole-both order weight pushes likely in
                let b = whole-both order weight goal_code (Skips Goto over ∷ tail) in
                let c = whole-both order weight front slot in
                omega (arith, a, b, c);
            comes =
                subst (λ high. ComesToEnd site at high 1 132 (λ weight. whole_weight order pushes weight + test_total weight + (whole_weight order goal_code weight + skip_total weight)) (λ u. HasPut bank known link (IsSettled w) behind w u x) (stands site at w)) ends
                (record {
                  turns = first.turns + 1 + (goal.turns + 1);
                  after = after;
                  path = whole;
                  no_sooner = omega arith;
                  in_time = omega (arith, early, soon);
                  arrives = settled-put bank behind known link w after x (has-settled bank behind known link w x numbers h);
                });
          }

      -- it is taken
      drops-middle : (l : Option ℕ) → drop (5 + length (link_code bank l x.pc)) (goes_to_code behind ++ link_code bank l x.pc ++ Skips Goto over ∷ tail) ≡ tail
      drops-middle None = refl
      drops-middle (Some r) = refl

      pub likely-reaches : (at : ℕ) → branches test (with_operands w before) ≡ chooses true (with_operands w before) w.operands → LiesAt site.program site.method at (pushes ++ likely) → ReachesSlot site order (λ u. HasPut bank known link (IsSettled w) target w u x) 16 at w (pushes ++ likely) slot
      likely-reaches at is lies =
          let parts = laws.parts site.program site.method at pushes likely (nil-within (pushes_within [] refl)) lies in
          let branch_at = at + size pushes in
          let there = branch_at + 3 + bytes_before middle target_step in
          let lies_tail : LiesAt site.program site.method there tail = subst (LiesAt site.program site.method there) (drops-middle link) (suffix-lies site.program site.method target_step middle (branch_at + 3) parts.1.1) in
          let first = pushes-come at parts.0 in
          let first_path = subst (λ u. PathIn site at branch_at first.turns (whole_weight order pushes) (stands site at w) (stands site branch_at u)) first.arrives first.path in
          let taken_path = taken-path site branch_at target_step test middle (with_operands w before) w parts.1 is in
          let to_front = front-reaches laws site order (λ u. HasPut bank known link (IsSettled w) target w u x) 8 there (suc (suc (suc (suc (link_turns link))))) w (gone bank link x.pc w target) front slot (within-goal bank x.pc link) lies_tail (ap later (goal-ends site.program site.words bank x.pc target link w)) (omega arith) (let links = few-links link in omega (arith, links)) (settled-put bank target known link w (gone bank link x.pc w target) x (has-settled bank target known link w x numbers h)) in
          let split = size-split target_step middle in
          let sizes : size (drop target_step middle) ≡ size tail = ap size (drops-middle link) in
          let all = size-both pushes likely in
          let early = first.in_time in
          record {
            place = to_front.place;
            lies = to_front.lies;
            end = omega (arith, to_front.end, split, sizes, all);
            total = λ weight. whole_weight order pushes weight + step_weight weight (Skips test target_step) + to_front.total weight;
            weighs = λ weight.
                let a = to_front.weighs weight in
                let b = whole-both order weight pushes likely in
                let c = whole-drop order weight target_step middle in
                let d : whole_weight order (drop target_step middle) weight ≡ whole_weight order tail weight = ap (λ code. whole_weight order code weight) (drops-middle link) in
                omega (arith, a, b, c, d);
            comes = end-after site at there to_front.place (first.turns + 1) 1 8 1 16 (λ weight. whole_weight order pushes weight + step_weight weight (Skips test target_step)) to_front.total (λ weight. whole_weight order pushes weight + step_weight weight (Skips test target_step) + to_front.total weight) (stands site at w) (stands site there w)
                (paths-join site.program site.words site.method at branch_at there first.turns 1 (whole_weight order pushes) (λ weight. step_weight weight (Skips test target_step)) (stands site at w) (stands site branch_at (with_operands w before)) (stands site there w) first_path taken_path)
                (omega arith) (omega (arith, early)) (λ weight. omega arith)
                (λ u t. HasPut bank known link (IsSettled w) target w u x) (λ u t. HasPut bank known link (IsSettled w) target w u x) x (λ u has. has) to_front.comes;
          }
