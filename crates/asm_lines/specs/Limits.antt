-- Numbers as they are kept: a magnitude above every range counts as the least such one.
use Rattle.std.specs.Prelude.{ℕ, ◌^◌, min}
use Rattle.asm_lines.specs.declared.number.Number.{Number}

abbrev pub capped : ℕ → ℕ
capped n = min n (2 ^ 40)

abbrev pub kept : Number → Number
kept n = record { negative = n.negative; magnitude = capped n.magnitude }
