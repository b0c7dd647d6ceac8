-- Numbers of places in the code of a method.
use Rattle.std.specs.Prelude.{ℕ}

-- how many bytes of the method's code stand before an instruction, or before the code's end
abbrev pub CodeOffset : Type 0
CodeOffset = ℕ
