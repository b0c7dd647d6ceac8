-- Steps that are laid down in a method.
use Rattle.std.specs.Prelude.{◌≡◌, ℕ, ◌+◌, List, [], ◌∷◌, Some}
use Rattle.jvm_definition.specs.declared.branch_name.BranchName.TheVariants.{Goto}
use Rattle.jvm_definition.specs.declared.linked_line.LinkedLine.{LinkedLine}
use Rattle.jvm_definition.specs.declared.instruction.Instruction.{Instruction}
use Rattle.jvm_definition.specs.declared.instruction.Instruction.TheVariants.{Branch, TableSwitch}
use Rattle.jvm_definition.specs.Program.{Program, linked_line_at}
use Rattle.emit_steps.specs.declared.step.Step.{Step}
use Rattle.emit_steps.specs.declared.step.Step.TheVariants.{Does, Skips, Leaves, Selects}
use Rattle.emit_steps.specs.Widths.{width, bytes_before}
use Rattle.emit_steps.specs.Offsets.{CodeOffset}

-- the instruction of a step at an offset, with others behind it
abbrev pub placed_instruction : CodeOffset → Step → List Step → Instruction
placed_instruction at (Does instruction) others = instruction
placed_instruction at (Skips name k) others = Branch name (at + 3 + bytes_before others k)
placed_instruction at (Leaves target) others = Branch Goto target
placed_instruction at (Selects s) others = TableSwitch s

abbrev pub placed_line : CodeOffset → Step → List Step → LinkedLine
placed_line at s others = record {
  at = at;
  next = at + width s;
  instruction = placed_instruction at s others;
}

-- the lines of code from an offset on
abbrev pub laid : CodeOffset → List Step → List LinkedLine
laid at [] = []
laid at (s ∷ code) = placed_line at s code ∷ laid (at + width s) code

-- a method has the lines of the code from an offset on
abbrev pub LiesAt : Program → ℕ → CodeOffset → List Step → Type 0
LiesAt program m at [] = Unit {0}
LiesAt program m at (s ∷ code) = (linked_line_at program m at ≡ Some (placed_line at s code))
    × LiesAt program m (at + width s) code
