-- Code and other code behind it.
use Rattle.std.proofs.Common.{◌≡◌, ℕ, zero, suc, ◌+◌, ◌≤◌, List, [], ◌∷◌, ◌++◌, length, slice_get, Option, Some, None, IsTrue, nat_le, refl, ap, subst, ◌∙◌, arith}
use Rattle.std.proofs.Math.Nat.{add_assoc}
use Rattle.std.proofs.lemmas.Bool.{and_parts, leb-true}
use Rattle.jvm_definition.specs.declared.instruction.Instruction.TheVariants.{Branch, TableSwitch}
use Rattle.jvm_definition.specs.Program.{Program, instruction_targets}
use Rattle.jvm_definition.specs.Effect.{Workspace, InstructionEffect, goes_on, jumps, branches, instruction_effect}
use Rattle.emit_steps.specs.declared.step.Step.{Step}
use Rattle.emit_steps.specs.declared.step.Step.TheVariants.{Does, Skips, Leaves, Selects}
use Rattle.emit_steps.specs.Widths.{width, bytes_before, size}
use Rattle.emit_steps.specs.Outcomes.{Outcome, ended, left, stopped, beyond, later, after_instruction, after_branch, selected, after_switch, outcome_from, stays_within, shifted, followed_by}
use Rattle.emit_steps.specs.Placing.{placed_line, LiesAt}

unshifted : (o : Outcome) → o ≡ shifted 0 0 o
unshifted (ended n w) = let e : n ≡ 0 + n = omega arith in ap (λ k. ended k w) e
unshifted (left n target w) = let e : n ≡ 0 + n = omega arith in ap (λ k. left k target w) e
unshifted (stopped n i w x) =
    let e : n ≡ 0 + n = omega arith in
    let f : i ≡ 0 + i = omega arith in
    ap (λ k. stopped k i w x) e ∙ ap (λ j. stopped (0 + n) j w x) f

beyond-shifted : (n i : ℕ) (o : Outcome) → beyond (shifted n i o) ≡ shifted n (suc i) o
beyond-shifted n i (ended m w) = refl
beyond-shifted n i (left m target w) = refl
beyond-shifted n i (stopped m j w x) = let e : suc (i + j) ≡ suc i + j = omega arith in ap (λ k. stopped (n + m) k w x) e

later-shifted : (n i : ℕ) (o : Outcome) → later (shifted n i o) ≡ shifted (suc n) (suc i) o
later-shifted n i (ended m w) = let e : suc (n + m) ≡ suc n + m = omega arith in ap (λ k. ended k w) e
later-shifted n i (left m target w) = let e : suc (n + m) ≡ suc n + m = omega arith in ap (λ k. left k target w) e
later-shifted n i (stopped m j w x) =
    let e : suc (n + m) ≡ suc n + m = omega arith in
    let f : suc (i + j) ≡ suc i + j = omega arith in
    ap (λ k. stopped k (suc (i + j)) w x) e ∙ ap (λ k. stopped (suc n + m) k w x) f

beyond-followed : (i : ℕ) (f : Workspace → Outcome) (o : Outcome) → beyond (followed_by i f o) ≡ followed_by (suc i) f (beyond o)
beyond-followed i f (ended n w) = beyond-shifted n i (f w)
beyond-followed i f (left n target w) = refl
beyond-followed i f (stopped n j w x) = refl

later-followed : (i : ℕ) (f : Workspace → Outcome) (o : Outcome) → later (followed_by i f o) ≡ followed_by (suc i) f (later o)
later-followed i f (ended n w) = later-shifted n i (f w)
later-followed i f (left n target w) = refl
later-followed i f (stopped n j w x) = refl

-- ---- by what a step does

does-followed : (i : ℕ) (w : Workspace) (e : InstructionEffect) (f rest both : Workspace → Outcome) → ((v : Workspace) → both v ≡ followed_by i f (rest v)) → after_instruction w e both ≡ followed_by (suc i) f (after_instruction w e rest)
does-followed i w (goes_on v) f rest both h = ap later (h v) ∙ later-followed i f (rest v)
does-followed i w _ f rest both h = refl

skips-followed : (i : ℕ) (w : Workspace) (e : InstructionEffect) (f rest both target both_there : Workspace → Outcome) → ((v : Workspace) → both v ≡ followed_by i f (rest v)) → ((v : Workspace) → both_there v ≡ followed_by i f (target v)) → after_branch w e both both_there ≡ followed_by (suc i) f (after_branch w e rest target)
skips-followed i w (goes_on v) f rest both target both_there h g = ap later (h v) ∙ later-followed i f (rest v)
skips-followed i w (jumps zero v) f rest both target both_there h g = ap later (g v) ∙ later-followed i f (target v)
skips-followed i w _ f rest both target both_there h g = refl

selected-followed : (i : ℕ) (w v : Workspace) (k : ℕ) (f : Workspace → Outcome) (found : Option ℕ) → selected w k v found ≡ followed_by i f (selected w k v found)
selected-followed i w v k f None = refl
selected-followed i w v k f (Some target) = refl

selects-followed : (i : ℕ) (w : Workspace) (e : InstructionEffect) (f : Workspace → Outcome) (targets : List ℕ) → after_switch w e targets ≡ followed_by i f (after_switch w e targets)
selects-followed i w (jumps k v) f targets = selected-followed i w v k f (slice_get targets k)
selects-followed i w _ f targets = refl

nothing-within : (k : ℕ) → suc k ≤ 0 → ⊥
nothing-within k h = omega arith

below : (k n : ℕ) → suc k ≤ suc n → k ≤ n
below k n h = omega arith

pub codes-follow : (program : Program) (words : ℕ) (second first : List Step) (k : ℕ) (w : Workspace) → k ≤ length first → IsTrue (stays_within first) → outcome_from program words (first ++ second) k w ≡ followed_by (length first) (outcome_from program words second 0) (outcome_from program words first k w)
codes-follow program words second [] zero w few within = unshifted (outcome_from program words second 0 w)
codes-follow program words second [] (suc k) w few within = absurd (nothing-within k few)
codes-follow program words second (Does instruction ∷ first) (suc k) w few within =
    ap beyond (codes-follow program words second first k w (below k (length first) few) within)
    ∙ beyond-followed (length first) (outcome_from program words second 0) (outcome_from program words first k w)
codes-follow program words second (Skips name j ∷ first) (suc k) w few within =
    ap beyond (codes-follow program words second first k w (below k (length first) few) (and_parts (nat_le j (length first)) (stays_within first) within).1)
    ∙ beyond-followed (length first) (outcome_from program words second 0) (outcome_from program words first k w)
codes-follow program words second (Leaves target ∷ first) (suc k) w few within =
    ap beyond (codes-follow program words second first k w (below k (length first) few) within)
    ∙ beyond-followed (length first) (outcome_from program words second 0) (outcome_from program words first k w)
codes-follow program words second (Selects s ∷ first) (suc k) w few within =
    ap beyond (codes-follow program words second first k w (below k (length first) few) within)
    ∙ beyond-followed (length first) (outcome_from program words second 0) (outcome_from program words first k w)
codes-follow program words second (Does instruction ∷ first) zero w few within =
    does-followed (length first) w (instruction_effect program words instruction w) (outcome_from program words second 0) (outcome_from program words first 0) (outcome_from program words (first ++ second) 0)
    (λ v. codes-follow program words second first 0 v (omega arith) within)
codes-follow program words second (Skips name j ∷ first) zero w few within =
    let parts = and_parts (nat_le j (length first)) (stays_within first) within in
    skips-followed (length first) w (branches name w) (outcome_from program words second 0) (outcome_from program words first 0) (outcome_from program words (first ++ second) 0) (outcome_from program words first j) (outcome_from program words (first ++ second) j)
    (λ v. codes-follow program words second first 0 v (omega arith) parts.1)
    (λ v. codes-follow program words second first j v (leb-true j (length first) parts.0) parts.1)
codes-follow program words second (Leaves target ∷ first) zero w few within = refl
codes-follow program words second (Selects s ∷ first) zero w few within =
    selects-followed (suc (length first)) w (instruction_effect program words (TableSwitch s) w) (outcome_from program words second 0) (instruction_targets (TableSwitch s))

-- ---- where the parts lie

pub before-same : (first second : List Step) (k : ℕ) → k ≤ length first → bytes_before (first ++ second) k ≡ bytes_before first k
before-same [] second zero few = refl
before-same [] second (suc k) few = absurd (nothing-within k few)
before-same (s ∷ first) second zero few = refl
before-same (s ∷ first) second (suc k) few = ap (λ b. width s + b) (before-same first second k (below k (length first) few))

-- the line of a step is the same with more code behind it
line-same : (at : ℕ) (s : Step) (first second : List Step) → IsTrue (stays_within (s ∷ first)) → placed_line at s (first ++ second) ≡ placed_line at s first
line-same at (Does instruction) first second within = refl
line-same at (Skips name k) first second within =
    ap (λ b. record { at = at; next = at + 3; instruction = Branch name (at + 3 + b) })
    (before-same first second k (leb-true k (length first) (and_parts (nat_le k (length first)) (stays_within first) within).0))
line-same at (Leaves target) first second within = refl
line-same at (Selects s) first second within = refl

rest-within : (s : Step) (first : List Step) → IsTrue (stays_within (s ∷ first)) → IsTrue (stays_within first)
rest-within (Does instruction) first within = within
rest-within (Skips name k) first within = (and_parts (nat_le k (length first)) (stays_within first) within).1
rest-within (Leaves target) first within = within
rest-within (Selects s) first within = within

pub parts-lie : (program : Program) (m : ℕ) (second first : List Step) (at : ℕ) → IsTrue (stays_within first) → LiesAt program m at (first ++ second) → LiesAt program m at first × LiesAt program m (at + size first) second
parts-lie program m second [] at within lies = let e : at ≡ at + 0 = omega arith in (tt, subst (λ a. LiesAt program m a second) e lies)
parts-lie program m second (s ∷ first) at within lies =
    let rest = parts-lie program m second first (at + width s) (rest-within s first within) lies.1 in
    ((lies.0 ∙ ap Some (line-same at s first second within), rest.0), subst (λ a. LiesAt program m a second) (add_assoc at (width s) (size first)) rest.1)
