use Rattle.std.proofs.Common.{◌≡◌, length}
use Rattle.asm_lines.specs.Lexical.{all, goes_on_name}
use Rattle.asm_lines.proofs.lexical.all_go_on.Given as goal

abbrev pub invariant-loop-first : goal.invariant-loop-first
invariant-loop-first l = all goes_on_name l.left ≡ all goes_on_name l.bytes

abbrev pub decreases-loop-first : goal.decreases-loop-first
decreases-loop-first l = length l.left
