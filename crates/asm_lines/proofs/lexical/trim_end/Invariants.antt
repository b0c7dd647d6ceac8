use Rattle.std.proofs.Common.{◌≡◌, length}
use Rattle.asm_lines.specs.Lexical.{up_to_last}
use Rattle.asm_lines.proofs.lexical.trim_end.Given as goal

abbrev pub invariant-loop-last : goal.invariant-loop-last
invariant-loop-last l = up_to_last l.other l.left ≡ up_to_last l.other l.bytes

abbrev pub decreases-loop-last : goal.decreases-loop-last
decreases-loop-last l = length l.left
