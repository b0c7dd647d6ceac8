use Rattle.std.proofs.Common.{◌≡◌, length, ◌≤◌, ◌^◌}
use Rattle.std.specs.Prelude.{option_map}
use Rattle.asm_lines.specs.Limits.{capped}
use Rattle.asm_lines.specs.Numbers.{digits_after}
use Rattle.asm_lines.proofs.numbers.digits_number.Given as goal

abbrev pub invariant-loop-first : goal.invariant-loop-first
invariant-loop-first l = (option_map capped (digits_after l.base l.high l.left) ≡ option_map capped (digits_after l.base 0 l.digits)) × (l.high ≤ 2 ^ 40)

abbrev pub decreases-loop-first : goal.decreases-loop-first
decreases-loop-first l = length l.left
