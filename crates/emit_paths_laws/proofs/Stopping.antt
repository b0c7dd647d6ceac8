-- The effect with which code stops is that of the instruction at which it stops.
use Rattle.std.proofs.Common.{◌≡◌, ℕ, zero, suc, List, [], ◌∷◌, slice_get, Option, Some, None, refl, ap, subst, sym, ◌∙◌}
use Rattle.jvm_definition.specs.declared.instruction.Instruction.{Instruction}
use Rattle.jvm_definition.specs.declared.instruction.Instruction.TheVariants.{TableSwitch}
use Rattle.jvm_definition.specs.Program.{Program, instruction_targets}
use Rattle.jvm_definition.specs.Effect.{Workspace, InstructionEffect, goes_on, jumps, branches, instruction_effect}
use Rattle.emit_steps.specs.declared.step.Step.{Step}
use Rattle.emit_steps.specs.declared.step.Step.TheVariants.{Does, Skips, Leaves, Selects}
use Rattle.emit_steps.specs.Outcomes.{Outcome, ended, left, stopped, beyond, later, after_instruction, after_branch, selected, after_switch, outcome_from}

module _ (program : Program) (words : ℕ) where
  -- the effect of a step that is no branch, or another one
  abbrev effect_of : Workspace → InstructionEffect → Option Step → InstructionEffect
  effect_of w e (Some (Does instruction)) = instruction_effect program words instruction w
  effect_of w e _ = e

  abbrev Tells : List Step → Outcome → Type 0
  Tells code (stopped n i w e) =
      (instruction : Instruction) → slice_get code i ≡ Some (Does instruction) → instruction_effect program words instruction w ≡ e
  Tells code _ = Unit {0}

  beyond-tells : (s : Step) (code : List Step) (o : Outcome) → Tells code o → Tells (s ∷ code) (beyond o)
  beyond-tells s code (ended n w) tells = tt
  beyond-tells s code (left n target w) tells = tt
  beyond-tells s code (stopped n i w e) tells = tells

  later-tells : (s : Step) (code : List Step) (o : Outcome) → Tells code o → Tells (s ∷ code) (later o)
  later-tells s code (ended n w) tells = tt
  later-tells s code (left n target w) tells = tt
  later-tells s code (stopped n i w e) tells = tells

  stop-tells : (s : Step) (code : List Step) (w : Workspace) (e : InstructionEffect) → effect_of w e (Some s) ≡ e → Tells (s ∷ code) (stopped 0 0 w e)
  stop-tells s code w e same instruction is = sym (ap (effect_of w e) is) ∙ same

  does-tells : (s : Step) (code : List Step) (w : Workspace) (e : InstructionEffect) (rest : Workspace → Outcome) → effect_of w e (Some s) ≡ e → ((v : Workspace) → Tells code (rest v)) → Tells (s ∷ code) (after_instruction w e rest)
  does-tells s code w (goes_on v) rest same on = later-tells s code (rest v) (on v)
  does-tells s code w e rest same on = stop-tells s code w e same

  skips-tells : (s : Step) (code : List Step) (w : Workspace) (e : InstructionEffect) (rest target : Workspace → Outcome) → effect_of w e (Some s) ≡ e → ((v : Workspace) → Tells code (rest v)) → ((v : Workspace) → Tells code (target v)) → Tells (s ∷ code) (after_branch w e rest target)
  skips-tells s code w (goes_on v) rest target same on there = later-tells s code (rest v) (on v)
  skips-tells s code w (jumps zero v) rest target same on there = later-tells s code (target v) (there v)
  skips-tells s code w e rest target same on there = stop-tells s code w e same

  selected-tells : (s : Step) (code : List Step) (w v : Workspace) (k : ℕ) (found : Option ℕ) → effect_of w (jumps k v) (Some s) ≡ jumps k v → Tells (s ∷ code) (selected w k v found)
  selected-tells s code w v k None same = stop-tells s code w (jumps k v) same
  selected-tells s code w v k (Some target) same = tt

  selects-tells : (s : Step) (code : List Step) (w : Workspace) (e : InstructionEffect) (targets : List ℕ) → effect_of w e (Some s) ≡ e → Tells (s ∷ code) (after_switch w e targets)
  selects-tells s code w (jumps k v) targets same =
      selected-tells s code w v k (slice_get targets k) same
  selects-tells s code w e targets same = stop-tells s code w e same

  outcome-tells : (code : List Step) (k : ℕ) (w : Workspace) → Tells code (outcome_from program words code k w)
  outcome-tells [] k w = tt
  outcome-tells (s ∷ code) (suc k) w =
      beyond-tells s code (outcome_from program words code k w) (outcome-tells code k w)
  outcome-tells (Does instruction ∷ code) zero w =
      does-tells (Does instruction) code w (instruction_effect program words instruction w) (outcome_from program words code 0) refl (outcome-tells code 0)
  outcome-tells (Skips name j ∷ code) zero w =
      skips-tells (Skips name j) code w (branches name w) (outcome_from program words code 0) (outcome_from program words code j) refl (outcome-tells code 0) (outcome-tells code j)
  outcome-tells (Leaves target ∷ code) zero w = tt
  outcome-tells (Selects s ∷ code) zero w =
      selects-tells (Selects s) code w (instruction_effect program words (TableSwitch s) w) (instruction_targets (TableSwitch s)) refl

  pub stop-effect : (code : List Step) (k n i : ℕ) (w v : Workspace) (e : InstructionEffect) (instruction : Instruction) → outcome_from program words code k w ≡ stopped n i v e → slice_get code i ≡ Some (Does instruction) → instruction_effect program words instruction v ≡ e
  stop-effect code k n i w v e instruction is step =
      subst (Tells code) is (outcome-tells code k w) instruction step
