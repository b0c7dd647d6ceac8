-- What steps do, from the list alone.
use Rattle.std.specs.Prelude.{ℕ, zero, suc, ◌+◌, ◌≤◌, ◌<◌, Bool, true, ◌&&◌, nat_le, List, [], ◌∷◌, length, slice_get, Option, Some, None}
use Rattle.jvm_definition.specs.declared.instruction.Instruction.TheVariants.{TableSwitch}
use Rattle.jvm_definition.specs.Program.{Program, instruction_targets}
use Rattle.jvm_definition.specs.Effect.{Workspace, InstructionEffect, goes_on, jumps, branches, instruction_effect}
use Rattle.emit_steps.specs.declared.step.Step.{Step}
use Rattle.emit_steps.specs.declared.step.Step.TheVariants.{Does, Skips, Leaves, Selects}
use Rattle.emit_steps.specs.Offsets.{CodeOffset}

-- How code that is begun with a workspace goes on. So many instructions lead to its end; or so many, of which the last is `goto_w` or a
-- switch, to an offset of the method; or so many to the step of a number, counted from 0, whose effect is another than to go on.
pub data Outcome : Type 0 where
  ended : ℕ → Workspace → Outcome
  left : ℕ → CodeOffset → Workspace → Outcome
  stopped : ℕ → ℕ → Workspace → InstructionEffect → Outcome

-- the outcome seen from a step before, which was passed over
abbrev pub beyond : Outcome → Outcome
beyond (ended n w) = ended n w
beyond (left n target w) = left n target w
beyond (stopped n i w e) = stopped n (suc i) w e

-- the same where that step was executed
abbrev pub later : Outcome → Outcome
later (ended n w) = ended (suc n) w
later (left n target w) = left (suc n) target w
later (stopped n i w e) = stopped (suc n) (suc i) w e

-- what an instruction leads to, with the outcome of the steps behind it
abbrev pub after_instruction : Workspace → InstructionEffect → (Workspace → Outcome) → Outcome
after_instruction w (goes_on v) rest = later (rest v)
after_instruction w e rest = stopped 0 0 w e

-- what a branch leads to, with the outcomes of the steps behind it and of those at its one target
abbrev pub after_branch : Workspace → InstructionEffect → (Workspace → Outcome) → (Workspace → Outcome)
    → Outcome
after_branch w (goes_on v) rest target = later (rest v)
after_branch w (jumps zero v) rest target = later (target v)
after_branch w e rest target = stopped 0 0 w e

-- what a switch leads to, by its targets
abbrev pub selected : Workspace → ℕ → Workspace → Option CodeOffset → Outcome
selected w k v None = stopped 0 0 w (jumps k v)
selected w k v (Some target) = left 1 target v

abbrev pub after_switch : Workspace → InstructionEffect → List CodeOffset → Outcome
after_switch w (jumps k v) targets = selected w k v (slice_get targets k)
after_switch w e targets = stopped 0 0 w e

-- the outcome of the code from its k-th step on
abbrev pub outcome_from : Program → ℕ → List Step → ℕ → Workspace → Outcome
outcome_from program words [] k w = ended 0 w
outcome_from program words (s ∷ code) (suc k) w = beyond (outcome_from program words code k w)
outcome_from program words (Does instruction ∷ code) zero w =
    after_instruction w (instruction_effect program words instruction w) (outcome_from program words code 0)
outcome_from program words (Skips name k ∷ code) zero w =
    after_branch w (branches name w) (outcome_from program words code 0)
    (outcome_from program words code k)
outcome_from program words (Leaves target ∷ code) zero w = left 1 target w
outcome_from program words (Selects s ∷ code) zero w =
    after_switch w (instruction_effect program words (TableSwitch s) w) (instruction_targets (TableSwitch s))

abbrev pub outcome : Program → ℕ → List Step → Workspace → Outcome
outcome program words code w = outcome_from program words code 0 w

-- no branch goes past the code's end
abbrev pub stays_within : List Step → Bool
stays_within [] = true
stays_within (Does instruction ∷ code) = stays_within code
stays_within (Skips name k ∷ code) = nat_le k (length code) && stays_within code
stays_within (Leaves target ∷ code) = stays_within code
stays_within (Selects s ∷ code) = stays_within code

-- ---- code before other code

abbrev pub shifted : ℕ → ℕ → Outcome → Outcome
shifted n i (ended m w) = ended (n + m) w
shifted n i (left m target w) = left (n + m) target w
shifted n i (stopped m j w e) = stopped (n + m) (i + j) w e

-- the outcome of code and of other code behind it
abbrev pub followed_by : ℕ → (Workspace → Outcome) → Outcome → Outcome
followed_by i rest (ended n w) = shifted n i (rest w)
followed_by i rest (left n target w) = left n target w
followed_by i rest (stopped n j w e) = stopped n j w e

-- no more instructions than there are steps, and none behind the step where it stops
abbrev pub IsWithin : ℕ → Outcome → Type 0
IsWithin steps (ended n w) = n ≤ steps
IsWithin steps (left n target w) = n ≤ steps
IsWithin steps (stopped n i w e) = (n ≤ i) × (i < steps)
