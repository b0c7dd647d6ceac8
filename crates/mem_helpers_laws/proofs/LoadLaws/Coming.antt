-- Where code comes to an effect, and where other steps stand before it.
use Rattle.std.proofs.Common.{◌≡◌, ℕ, zero, suc, ◌+◌, ◌≤◌, List, [], ◌∷◌, ◌++◌, length, refl, ap, ◌∙◌, arith}
use Rattle.jvm_definition.specs.Program.{Program}
use Rattle.jvm_definition.specs.Effect.{Workspace, InstructionEffect}
use Rattle.emit_steps.specs.declared.step.Step.{Step}
use Rattle.emit_steps.specs.Outcomes.{Outcome, stopped, beyond, later, outcome, outcome_from}

-- it comes to an effect within so many instructions
pub record Comes (o : Outcome) (most : ℕ) (e : InstructionEffect) : Type 0 where
  pub turns : ℕ
  pub step : ℕ
  pub at : Workspace
  pub is : o ≡ stopped turns step at e
  pub in_time : turns ≤ most

pub Comes-here : (i n : ℕ) (w : Workspace) (e : InstructionEffect) → Comes (stopped n i w e) n e
Comes-here i n w e = record { turns = n; step = i; at = w; is = refl; in_time = omega arith }

-- the outcome where so many steps were executed before
abbrev pub laters : ℕ → Outcome → Outcome
laters zero o = o
laters (suc n) o = later (laters n o)

Comes-later : {o : Outcome} {most : ℕ} {e : InstructionEffect} → Comes o most e → Comes (later o) (suc most) e
Comes-later c =
    let few = c.in_time in
    record { turns = suc c.turns; step = suc c.step; at = c.at; is = ap later c.is; in_time = omega arith }

Comes-laters : (n : ℕ) {o : Outcome} {most : ℕ} {e : InstructionEffect} → Comes o most e → Comes (laters n o) (n + most) e
Comes-laters zero c = let few = c.in_time in record { turns = c.turns; step = c.step; at = c.at; is = c.is; in_time = omega arith }
Comes-laters (suc n) c =
    let more = Comes-later (Comes-laters n c) in
    let few = more.in_time in
    record { turns = more.turns; step = more.step; at = more.at; is = more.is; in_time = omega arith }

-- an outcome that is another's with so many steps before
pub Comes-after : (n : ℕ) {o p : Outcome} {most more : ℕ} {e : InstructionEffect} → p ≡ laters n o → n + most ≤ more → Comes o most e → Comes p more e
Comes-after n same few c =
    let all = Comes-laters n c in
    let enough = all.in_time in
    record { turns = all.turns; step = all.step; at = all.at; is = same ∙ all.is; in_time = omega arith }

-- steps that are passed over
pub Comes-behind : (program : Program) (words : ℕ) (front code : List Step) (w : Workspace) {most : ℕ} {e : InstructionEffect} → Comes (outcome program words code w) most e → Comes (outcome_from program words (front ++ code) (length front) w) most e
Comes-behind program words [] code w c = c
Comes-behind program words (s ∷ front) code w c =
    let rest = Comes-behind program words front code w c in
    record { turns = rest.turns; step = suc rest.step; at = rest.at; is = ap beyond rest.is; in_time = rest.in_time }
