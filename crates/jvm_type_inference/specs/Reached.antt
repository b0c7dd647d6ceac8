-- The offsets to which a method's code may come.
use Rattle.std.specs.Prelude.{◌≡◌, ℕ, true, Bool, All, Some}
use Rattle.jvm_definition.specs.declared.linked_line.LinkedLine.{LinkedLine}
use Rattle.jvm_definition.specs.declared.linked_method.LinkedMethod.{LinkedMethod}
use Rattle.jvm_definition.specs.Program.{line_in, successors}

-- a set of offsets holds, with that of an instruction, those to which it may go
abbrev pub IsClosed : LinkedMethod → (ℕ → Bool) → Type 0
IsClosed method set =
    (at : ℕ) (line : LinkedLine) → line_in method.lines at ≡ Some line → set at ≡ true
    → All (λ to. set to ≡ true) (successors line)

-- an offset is reached from 0: each such set that holds 0 holds it
abbrev pub Reached : LinkedMethod → ℕ → Type 0
Reached method at = (set : ℕ → Bool) → set 0 ≡ true → IsClosed method set → set at ≡ true
