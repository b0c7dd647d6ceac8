-- Code names local variables below their number.
use Rattle.std.proofs.Common.{◌≡◌, ℕ, ◌≤◌, true, List, [], ◌∷◌, refl, arith}
use Rattle.std.proofs.lemmas.Bool.{and_from, lt-ltb}
use Rattle.jvm_definition.specs.declared.instruction.Instruction.{Instruction}
use Rattle.jvm_definition.specs.declared.instruction.Instruction.TheVariants as instructions
use Rattle.emit_steps.specs.declared.step.Step.{Step}
use Rattle.emit_steps.specs.declared.step.Step.TheVariants.{Does, Skips, Leaves, Selects}
use Rattle.emit_spans.specs.Locals.{instruction_locals, step_locals, locals_of}
use Rattle.emit_types_laws.specs.Judging.{typed_as}
use Rattle.emit_types_laws.specs.Bodies.{names_below, all_names_below}

instruction-below : (count : ℕ) (i : Instruction) → instruction_locals i ≤ count → names_below count i ≡ true
instruction-below count (instructions.Load kind i) few = lt-ltb i count (omega (arith, few))
instruction-below count (instructions.Store kind i) few = lt-ltb i count (omega (arith, few))
instruction-below count (instructions.Increment i by) few = lt-ltb i count (omega (arith, few))
instruction-below count _ few = refl

step-below : (count : ℕ) (s : Step) → step_locals s ≤ count → names_below count (typed_as s) ≡ true
step-below count (Does instruction) few = instruction-below count instruction few
step-below count (Skips name k) few = refl
step-below count (Leaves target) few = refl
step-below count (Selects s) few = refl

pub names-within : (count : ℕ) (code : List Step) → locals_of code ≤ count → all_names_below count code ≡ true
names-within count [] few = refl
names-within count (s ∷ code) few =
    and_from (names_below count (typed_as s)) (all_names_below count code) (step-below count s (omega (arith, few)))
    (names-within count code (omega (arith, few)))
