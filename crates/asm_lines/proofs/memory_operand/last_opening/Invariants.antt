use Rattle.std.proofs.Common.{◌≡◌, ◌≤◌, length}
use Rattle.asm_lines.specs.Operands.{last_opening}
use Rattle.asm_lines.proofs.memory_operand.last_opening.Given as goal

-- no `(` stands behind what is left
abbrev pub invariant-loop-last : goal.invariant-loop-last
invariant-loop-last l = (last_opening l.left ≡ last_opening l.text) × (length l.left ≤ length l.text)

abbrev pub decreases-loop-last : goal.decreases-loop-last
decreases-loop-last l = length l.left
