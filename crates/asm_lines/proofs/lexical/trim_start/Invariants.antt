use Rattle.std.proofs.Common.{◌≡◌, length}
use Rattle.asm_lines.specs.Lexical.{from, is_dark}
use Rattle.asm_lines.proofs.lexical.trim_start.Given as goal

abbrev pub invariant-loop-first : goal.invariant-loop-first
invariant-loop-first l = from (is_dark l.other) l.left ≡ from (is_dark l.other) l.bytes

abbrev pub decreases-loop-first : goal.decreases-loop-first
decreases-loop-first l = length l.left
