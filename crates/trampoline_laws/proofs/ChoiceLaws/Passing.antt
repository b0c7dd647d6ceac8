-- Code behind steps that are passed over.
use Rattle.std.proofs.Common.{◌≡◌, ℕ, zero, suc, List, [], ◌∷◌, ◌++◌, length, slice_get, refl, ap, ◌∙◌}
use Rattle.jvm_definition.specs.Program.{Program}
use Rattle.jvm_definition.specs.Effect.{Workspace, InstructionEffect}
use Rattle.emit_steps.specs.declared.step.Step.{Step}
use Rattle.emit_steps.specs.Outcomes.{Outcome, stopped, beyond, later, outcome, outcome_from}

-- the number of a step behind others
abbrev pub past : List Step → ℕ → ℕ
past [] i = i
past (s ∷ first) i = suc (past first i)

-- so many more, one by one
abbrev pub more : ℕ → ℕ → ℕ
more zero n = n
more (suc k) n = suc (more k n)

-- an outcome behind so many steps that are passed over, and behind so many that are executed
abbrev pub passed : ℕ → Outcome → Outcome
passed zero o = o
passed (suc k) o = beyond (passed k o)

abbrev pub executed : ℕ → Outcome → Outcome
executed zero o = o
executed (suc k) o = later (executed k o)

-- how code goes on from behind a call, after so many instructions: what steps stand before it makes no difference
pub record IsWay (on : ℕ → Workspace → Outcome) : Type 0 where
  pub passed : (n : ℕ) (u : Workspace) → beyond (on n u) ≡ on n u
  pub grown : (n : ℕ) (u : Workspace) → later (on n u) ≡ on (suc n) u

pub get-past : (first second : List Step) (i : ℕ) → slice_get (first ++ second) (past first i) ≡ slice_get second i
get-past [] second i = refl
get-past (s ∷ first) second i = get-past first second i

pub stops-past : (program : Program) (words n i : ℕ) (first second : List Step) (w v : Workspace) (e : InstructionEffect) → outcome program words second w ≡ stopped n i v e → outcome_from program words (first ++ second) (length first) w ≡ stopped n (past first i) v e
stops-past program words n i [] second w v e is = is
stops-past program words n i (s ∷ first) second w v e is = ap beyond (stops-past program words n i first second w v e is)

pub way-past : (program : Program) (words n i : ℕ) (first second : List Step) (u : Workspace) (on : ℕ → Workspace → Outcome) → IsWay on → outcome_from program words second i u ≡ on n u → outcome_from program words (first ++ second) (past first i) u ≡ on n u
way-past program words n i [] second u on way is = is
way-past program words n i (s ∷ first) second u on way is = ap beyond (way-past program words n i first second u on way is) ∙ way.passed n u

-- the step behind them
pub past-zero : (first : List Step) → past first 0 ≡ length first
past-zero [] = refl
past-zero (s ∷ first) = ap suc (past-zero first)

pub past-suc : (first : List Step) (i : ℕ) → past first (suc i) ≡ suc (past first i)
past-suc [] i = refl
past-suc (s ∷ first) i = ap suc (past-suc first i)
