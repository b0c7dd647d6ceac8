use Rattle.std.proofs.Common.{◌≡◌, ◌≤◌, length}
use Rattle.std.specs.Prelude.{◌==◌}
use Rattle.asm_lines.specs.Lexical.{from}
use Rattle.asm_lines.proofs.lexical.from_byte.Given as goal

abbrev pub invariant-loop-first : goal.invariant-loop-first
invariant-loop-first l = (from (λ b. b == l.stop) l.left ≡ from (λ b. b == l.stop) l.bytes) × (length l.left ≤ length l.bytes)

abbrev pub decreases-loop-first : goal.decreases-loop-first
decreases-loop-first l = length l.left
