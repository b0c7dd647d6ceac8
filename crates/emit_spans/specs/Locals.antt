-- How many local variables code uses: one more than the greatest that it names.
use Rattle.std.specs.Prelude.{ℕ, ◌+◌, max, List, [], ◌∷◌}
use Rattle.jvm_definition.specs.declared.instruction.Instruction.{Instruction}
use Rattle.jvm_definition.specs.declared.instruction.Instruction.TheVariants as instructions
use Rattle.emit_steps.specs.declared.step.Step.{Step}
use Rattle.emit_steps.specs.declared.step.Step.TheVariants.{Does, Skips, Leaves, Selects}

abbrev pub instruction_locals : Instruction → ℕ
instruction_locals (instructions.Load kind i) = i + 1
instruction_locals (instructions.Store kind i) = i + 1
instruction_locals (instructions.Increment i by) = i + 1
instruction_locals _ = 0

abbrev pub step_locals : Step → ℕ
step_locals (Does instruction) = instruction_locals instruction
step_locals (Skips name k) = 0
step_locals (Leaves target) = 0
step_locals (Selects s) = 0

abbrev pub locals_of : List Step → ℕ
locals_of [] = 0
locals_of (s ∷ code) = max (step_locals s) (locals_of code)
