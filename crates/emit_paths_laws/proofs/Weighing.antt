-- What steps weigh, the bytes that they take, and the lines that they are where they lie.
use Rattle.std.proofs.Common.{◌≡◌, ℕ, zero, suc, ◌+◌, ◌≤◌, List, [], ◌∷◌, ◌++◌, take, drop, slice_get, Option, Some, refl, ap, subst, ◌∙◌, arith, unwrap_or}
use Rattle.std.proofs.Math.Nat.{add_assoc}
use Rattle.std.proofs.lemmas.Option.{none-some}
use Rattle.run_simulation_laws.specs.Trail.{went}
use Rattle.jvm_definition.specs.declared.branch_name.BranchName.TheVariants.{Goto}
use Rattle.jvm_definition.specs.declared.instruction.Instruction.{Instruction}
use Rattle.jvm_definition.specs.declared.linked_line.LinkedLine.{LinkedLine}
use Rattle.jvm_definition.specs.Program.{Program, linked_line_at}
use Rattle.jvm_definition.specs.Effect.{Workspace}
use Rattle.jvm_definition.specs.Step.{JvmState, Frame, frame_placed}
use Rattle.emit_steps.specs.declared.step.Step.{Step}
use Rattle.emit_steps.specs.declared.step.Step.TheVariants.{Does, Skips, Leaves, Selects}
use Rattle.emit_steps.specs.Widths.{width, bytes_before, size}
use Rattle.emit_steps.specs.Placing.{placed_instruction, placed_line, laid, LiesAt}
use Rattle.emit_paths_laws.specs.Classes.{weighed, executed}
use Rattle.emit_paths_laws.specs.Paths.{LooksAtNoTarget, step_weight, weigh}

-- ---- weights

pub weigh-both : (weight : Instruction → ℕ) (first second : List Step) → weigh weight (first ++ second) ≡ weigh weight first + weigh weight second
weigh-both weight [] second = omega arith
weigh-both weight (s ∷ first) second = let rest = weigh-both weight first second in omega (arith, rest)

pub weigh-front : (weight : Instruction → ℕ) (k : ℕ) (code : List Step) → weigh weight (take k code) ≤ weigh weight code
weigh-front weight zero code = omega arith
weigh-front weight (suc k) [] = omega arith
weigh-front weight (suc k) (s ∷ code) = let rest = weigh-front weight k code in omega (arith, rest)

pub weigh-back : (weight : Instruction → ℕ) (k : ℕ) (code : List Step) → weigh weight (drop k code) ≤ weigh weight code
weigh-back weight zero code = omega arith
weigh-back weight (suc k) [] = omega arith
weigh-back weight (suc k) (s ∷ code) = let rest = weigh-back weight k code in omega (arith, rest)

pub weigh-more : (weight : Instruction → ℕ) (k : ℕ) (code : List Step) (s : Step) → slice_get code k ≡ Some s → weigh weight (take (suc k) code) ≡ weigh weight (take k code) + step_weight weight s
weigh-more weight k [] s is = absurd (none-some s is)
weigh-more weight zero (first ∷ code) s is =
    let same : step_weight weight first ≡ step_weight weight s = ap (λ (o : Option Step). step_weight weight (unwrap_or o s)) is in
    omega (arith, same)
weigh-more weight (suc k) (first ∷ code) s is =
    let rest = weigh-more weight k code s is in omega (arith, rest)

-- a step weighs what the instruction weighs that it is where it lies
pub laid-weighs : (weight : Instruction → ℕ) → LooksAtNoTarget weight → (at : ℕ) (s : Step) (code : List Step) → weight (placed_instruction at s code) ≡ step_weight weight s
laid-weighs weight still at (Does instruction) code = refl
laid-weighs weight still at (Skips name k) code = still name (at + 3 + bytes_before code k) 0
laid-weighs weight still at (Leaves target) code = still Goto target 0
laid-weighs weight still at (Selects s) code = refl

pub bytes-within : (code : List Step) (k : ℕ) → bytes_before code k ≤ size code
bytes-within code zero = omega arith
bytes-within [] (suc k) = omega arith
bytes-within (s ∷ code) (suc k) = let rest = bytes-within code k in omega (arith, rest)

pub bytes-more : (code : List Step) (k : ℕ) (s : Step) → slice_get code k ≡ Some s → bytes_before code (suc k) ≡ bytes_before code k + width s
bytes-more [] k s is = absurd (none-some s is)
bytes-more (first ∷ code) zero s is =
    let same : width first ≡ width s = ap (λ (o : Option Step). width (unwrap_or o s)) is in
    omega (arith, same)
bytes-more (first ∷ code) (suc k) s is =
    let rest = bytes-more code k s is in omega (arith, rest)

-- ---- the lines of steps

pub lies-line : (program : Program) (m i : ℕ) (code : List Step) (at : ℕ) (s : Step) → LiesAt program m at code → slice_get code i ≡ Some s → linked_line_at program m (at + bytes_before code i) ≡ Some (placed_line (at + bytes_before code i) s (drop (suc i) code))
lies-line program m i [] at s lies is = absurd (none-some s is)
lies-line program m zero (first ∷ code) at s lies is =
    let here : at ≡ at + 0 = omega arith in
    let same : first ≡ s = ap (λ (o : Option Step). unwrap_or o s) is in
    subst (λ a. linked_line_at program m a ≡ Some (placed_line a s code)) here (lies.0 ∙ ap (λ f. Some (placed_line at f code)) same)
lies-line program m (suc i) (first ∷ code) at s lies is =
    subst (λ a. linked_line_at program m a ≡ Some (placed_line a s (drop (suc i) code))) (add_assoc at (width first) (bytes_before code i)) (lies-line program m i code (at + width first) s lies.1 is)

-- a line of code is one of its steps
pub line-step : (i : ℕ) (code : List Step) (at : ℕ) (line : LinkedLine) → slice_get (laid at code) i ≡ Some line → (s : Step) × (slice_get code i ≡ Some s)
line-step i [] at line is = absurd (none-some line is)
line-step zero (s ∷ code) at line is = (s, refl)
line-step (suc i) (s ∷ code) at line is = line-step i code (at + width s) line is

-- a step that is no branch is the same line whatever follows
pub lies-alone : (program : Program) (m i at : ℕ) (code : List Step) (instruction : Instruction) → LiesAt program m at code → slice_get code i ≡ Some (Does instruction) → LiesAt program m (at + bytes_before code i) (Does instruction ∷ [])
lies-alone program m i at code instruction lies is = (lies-line program m i code at (Does instruction) lies is, tt)

-- a turn at a step weighs the step
pub step-weighs : (program : Program) (m i : ℕ) (code : List Step) (at : ℕ) (s : Step) → LiesAt program m at code → slice_get code i ≡ Some s → (w : Workspace) (others : List Frame) (y : JvmState) (weight : Instruction → ℕ) → LooksAtNoTarget weight → executed program weight (went (frame_placed m (at + bytes_before code i) w others) y) ≤ step_weight weight s
step-weighs program m i code at s lies is w others y weight still =
    let here = at + bytes_before code i in
    let stands : executed program weight (went (frame_placed m here w others) y) ≡ weight (placed_instruction here s (drop (suc i) code)) = ap (weighed weight) (lies-line program m i code at s lies is) in
    let same = laid-weighs weight still here s (drop (suc i) code) in
    omega (arith, stands, same)
