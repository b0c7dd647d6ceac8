-- Where code stops, part by part.
use Rattle.std.proofs.Common.{◌≡◌, ℕ, zero, suc, ◌+◌, ◌≤◌, List, [], ◌∷◌, ◌++◌, length, ap, subst, sym, ◌∙◌, arith}
use Rattle.jvm_definition.specs.Program.{Program}
use Rattle.jvm_definition.specs.Effect.{Workspace, InstructionEffect}
use Rattle.emit_steps.specs.declared.step.Step.{Step}
use Rattle.emit_steps.specs.Outcomes.{Outcome, stopped, beyond, later, outcome_from}

-- it stops after so many instructions at most, at an effect
pub record Stops (most : ℕ) (o : Outcome) (e : InstructionEffect) : Type 0 where
  pub turns : ℕ
  pub step : ℕ
  pub at : Workspace
  pub is : o ≡ stopped turns step at e
  pub in_time : turns ≤ most

-- the same by so many instructions before
abbrev pub laters : ℕ → Outcome → Outcome
laters zero o = o
laters (suc n) o = later (laters n o)

-- the same from so many steps before, which are passed over
abbrev pub beyonds : ℕ → Outcome → Outcome
beyonds zero o = o
beyonds (suc n) o = beyond (beyonds n o)

pub stops-same : {most : ℕ} {o p : Outcome} {e : InstructionEffect} → o ≡ p → Stops most p e → Stops most o e
stops-same {most} {o} {p} {e} same s = record { turns = s.turns; step = s.step; at = s.at; is = same ∙ s.is; in_time = s.in_time }

pub stops-beyond : (most : ℕ) (o : Outcome) (e : InstructionEffect) → Stops most o e → Stops most (beyond o) e
stops-beyond most o e s = record { turns = s.turns; step = suc s.step; at = s.at; is = ap beyond s.is; in_time = s.in_time }

pub stops-laters : (n most : ℕ) (o : Outcome) (e : InstructionEffect) → Stops most o e → Stops (n + most) (laters n o) e
stops-laters zero most o e s = record { turns = s.turns; step = s.step; at = s.at; is = s.is; in_time = let h = s.in_time in omega arith }
stops-laters (suc n) most o e s =
    let r = stops-laters n most o e s in
    let h = r.in_time in
    record { turns = suc r.turns; step = suc r.step; at = r.at; is = ap later r.is; in_time = omega arith }

pub stops-within : {most more : ℕ} {o : Outcome} {e : InstructionEffect} → most ≤ more → Stops most o e → Stops more o e
stops-within {most} {more} {o} {e} few s =
    let h = s.in_time in
    record { turns = s.turns; step = s.step; at = s.at; is = s.is; in_time = omega arith }

-- by code before that only computes
pub stops-after : (n : ℕ) {most : ℕ} {o p : Outcome} {e : InstructionEffect} → o ≡ laters n p → Stops most p e → Stops (n + most) o e
stops-after n {most} {o} {p} {e} same s = stops-same same (stops-laters n most p e s)

-- code is passed over
pub stops-past : (program : Program) (words most : ℕ) (first second : List Step) (j k : ℕ) (w : Workspace) (e : InstructionEffect) → k ≡ length first + j → Stops most (outcome_from program words second j w) e → Stops most (outcome_from program words (first ++ second) k w) e
stops-past program words most [] second j k w e is s =
    let same : k ≡ j = omega (arith, is) in subst (λ i. Stops most (outcome_from program words second i w) e) (sym same) s
stops-past program words most (x ∷ first) second j zero w e is s = absurd (omega (arith, is))
stops-past program words most (x ∷ first) second j (suc k) w e is s =
    let same : k ≡ length first + j = omega (arith, is) in
    stops-beyond most (outcome_from program words (first ++ second) k w) e (stops-past program words most first second j k w e same s)
