-- What lies behind a step of code, and the turns of branches.
use Rattle.std.proofs.Common.{◌≡◌, ℕ, zero, suc, ◌+◌, ◌≤◌, List, [], ◌∷◌, drop, length, refl, ap, subst, ◌∙◌, arith}
use Rattle.std.proofs.Math.Nat.{add_assoc}
use Rattle.run_definition.specs.declared.order.Order.{Order}
use Rattle.run_definition.specs.Turn.{moves}
use Rattle.jvm_definition.specs.declared.branch_name.BranchName.{BranchName}
use Rattle.jvm_definition.specs.declared.instruction.Instruction.{Instruction}
use Rattle.jvm_definition.specs.Program.{Program}
use Rattle.jvm_definition.specs.Effect.{Workspace, goes_on, jumps, branches}
use Rattle.jvm_definition.specs.Step as machine
use Rattle.jvm_definition.specs.Step.{Frame, frame_placed, jvm_turn, jvm_turn_by}
use Rattle.emit_steps.specs.declared.step.Step.{Step}
use Rattle.emit_steps.specs.declared.step.Step.TheVariants.{Skips}
use Rattle.emit_steps.specs.Widths.{width, bytes_before, size}
use Rattle.emit_steps.specs.Placing.{placed_line, LiesAt}
use Rattle.emit_paths_laws.specs.Paths.{step_weight}
use Rattle.emit_paths_laws.proofs.Joining.{turn-path, turn-weighs, seen-within}
use Rattle.emit_simulation_laws.specs.Sites.{Site, PathIn, stands, whole_weight}

pub suffix-lies : (program : Program) (m k : ℕ) (code : List Step) (at : ℕ) → LiesAt program m at code → LiesAt program m (at + bytes_before code k) (drop k code)
suffix-lies program m zero code at lies = let e : at ≡ at + 0 = omega arith in subst (λ a. LiesAt program m a code) e lies
suffix-lies program m (suc k) [] at lies = tt
suffix-lies program m (suc k) (s ∷ code) at lies =
    subst (λ a. LiesAt program m a (drop k code)) (add_assoc at (width s) (bytes_before code k))
    (suffix-lies program m k code (at + width s) lies.1)

pub size-split : (k : ℕ) (code : List Step) → size code ≡ bytes_before code k + size (drop k code)
size-split zero code = omega arith
size-split (suc k) [] = omega arith
size-split (suc k) (s ∷ code) = let rest = size-split k code in omega (arith, rest)

pub whole-drop : (order : Order) (weight : Instruction → ℕ) (k : ℕ) (code : List Step) → whole_weight order (drop k code) weight ≤ whole_weight order code weight
whole-drop order weight zero code = omega arith
whole-drop order weight (suc k) [] = omega arith
whole-drop order weight (suc k) (s ∷ code) = let rest = whole-drop order weight k code in omega (arith, rest)

-- all of the code is passed over
pub bytes-all : (code : List Step) → bytes_before code (length code) ≡ size code
bytes-all [] = refl
bytes-all (s ∷ code) = let rest = bytes-all code in omega (arith, rest)

-- a branch that is not taken goes on to the step behind it
pub passed-path : (site : Site) (at k : ℕ) (test : BranchName) (code : List Step) (w v : Workspace) → LiesAt site.program site.method at (Skips test k ∷ code) → branches test w ≡ goes_on v → PathIn site at (at + 3) 1 (λ weight. step_weight weight (Skips test k)) (stands site at w) (stands site (at + 3) v)
passed-path site at k test code w v lies is =
    let line = placed_line at (Skips test k) code in
    let goes : jvm_turn site.program site.words (stands site at w) ≡ moves (stands site (at + 3) v) =
    ap (machine.executed_line site.program site.words (stands site at w) (record { method = site.method; at = at; locals = w.locals; operands = w.operands }) site.others) lies.0
    ∙ ap (λ e. jvm_turn_by e site.method line site.others) is in
    turn-path site.program site.words site.method at (at + 3) (λ weight. step_weight weight (Skips test k)) (stands site at w) (stands site (at + 3) v) goes
    (λ weight still.
    let a = turn-weighs site.program site.method at w site.others (stands site (at + 3) v) line lies.0 weight in
    let b = still test (at + 3 + bytes_before code k) 0 in
    omega (arith, a, b))
    (seen-within site.program site.words site.method at (at + 3) w site.others (omega arith))

-- one that is taken goes past so many steps
pub taken-path : (site : Site) (at k : ℕ) (test : BranchName) (code : List Step) (w v : Workspace) → LiesAt site.program site.method at (Skips test k ∷ code) → branches test w ≡ jumps 0 v → PathIn site at (at + 3 + bytes_before code k) 1 (λ weight. step_weight weight (Skips test k)) (stands site at w) (stands site (at + 3 + bytes_before code k) v)
taken-path site at k test code w v lies is =
    let line = placed_line at (Skips test k) code in
    let goes : jvm_turn site.program site.words (stands site at w) ≡ moves (stands site (at + 3 + bytes_before code k) v) =
    ap (machine.executed_line site.program site.words (stands site at w) (record { method = site.method; at = at; locals = w.locals; operands = w.operands }) site.others) lies.0
    ∙ ap (λ e. jvm_turn_by e site.method line site.others) is in
    turn-path site.program site.words site.method at (at + 3 + bytes_before code k) (λ weight. step_weight weight (Skips test k)) (stands site at w) (stands site (at + 3 + bytes_before code k) v) goes
    (λ weight still.
    let a = turn-weighs site.program site.method at w site.others (stands site (at + 3 + bytes_before code k) v) line lies.0 weight in
    let b = still test (at + 3 + bytes_before code k) 0 in
    omega (arith, a, b))
    (seen-within site.program site.words site.method at (at + 3 + bytes_before code k) w site.others (omega arith))
