-- There are no more instructions than steps.
use Rattle.std.proofs.Common.{ℕ, zero, suc, List, [], ◌∷◌, length, slice_get, Option, Some, None, arith}
use Rattle.jvm_definition.specs.declared.instruction.Instruction.TheVariants.{TableSwitch}
use Rattle.jvm_definition.specs.Program.{Program, instruction_targets}
use Rattle.jvm_definition.specs.Effect.{Workspace, InstructionEffect, goes_on, jumps, branches, instruction_effect}
use Rattle.emit_steps.specs.declared.step.Step.{Step}
use Rattle.emit_steps.specs.declared.step.Step.TheVariants.{Does, Skips, Leaves, Selects}
use Rattle.emit_steps.specs.Outcomes.{Outcome, ended, left, stopped, beyond, later, after_instruction, after_branch, selected, after_switch, outcome_from, IsWithin}

beyond-within : (n : ℕ) (o : Outcome) → IsWithin n o → IsWithin (suc n) (beyond o)
beyond-within n (ended m w) h = omega arith
beyond-within n (left m target w) h = omega arith
beyond-within n (stopped m i w e) h = let a = h.0 in let b = h.1 in (omega arith, omega arith)

later-within : (n : ℕ) (o : Outcome) → IsWithin n o → IsWithin (suc n) (later o)
later-within n (ended m w) h = omega arith
later-within n (left m target w) h = omega arith
later-within n (stopped m i w e) h = let a = h.0 in let b = h.1 in (omega arith, omega arith)

does-within : (n : ℕ) (w : Workspace) (e : InstructionEffect) (rest : Workspace → Outcome) → ((v : Workspace) → IsWithin n (rest v)) → IsWithin (suc n) (after_instruction w e rest)
does-within n w (goes_on v) rest h = later-within n (rest v) (h v)
does-within n w _ rest h = (omega arith, omega arith)

skips-within : (n : ℕ) (w : Workspace) (e : InstructionEffect) (rest target : Workspace → Outcome) → ((v : Workspace) → IsWithin n (rest v)) → ((v : Workspace) → IsWithin n (target v)) → IsWithin (suc n) (after_branch w e rest target)
skips-within n w (goes_on v) rest target h g = later-within n (rest v) (h v)
skips-within n w (jumps zero v) rest target h g = later-within n (target v) (g v)
skips-within n w _ rest target h g = (omega arith, omega arith)

selected-within : (n : ℕ) (w v : Workspace) (k : ℕ) (found : Option ℕ) → IsWithin (suc n) (selected w k v found)
selected-within n w v k None = (omega arith, omega arith)
selected-within n w v k (Some target) = omega arith

selects-within : (n : ℕ) (w : Workspace) (e : InstructionEffect) (targets : List ℕ) → IsWithin (suc n) (after_switch w e targets)
selects-within n w (jumps k v) targets = selected-within n w v k (slice_get targets k)
selects-within n w _ targets = (omega arith, omega arith)

pub once : (program : Program) (words : ℕ) (code : List Step) (k : ℕ) (w : Workspace) → IsWithin (length code) (outcome_from program words code k w)
once program words [] k w = omega arith
once program words (s ∷ code) (suc k) w = beyond-within (length code) (outcome_from program words code k w) (once program words code k w)
once program words (Does instruction ∷ code) zero w =
    does-within (length code) w (instruction_effect program words instruction w) (outcome_from program words code 0) (once program words code 0)
once program words (Skips name j ∷ code) zero w =
    skips-within (length code) w (branches name w) (outcome_from program words code 0) (outcome_from program words code j) (once program words code 0) (once program words code j)
once program words (Leaves target ∷ code) zero w = omega arith
once program words (Selects s ∷ code) zero w =
    selects-within (length code) w (instruction_effect program words (TableSwitch s) w) (instruction_targets (TableSwitch s))
