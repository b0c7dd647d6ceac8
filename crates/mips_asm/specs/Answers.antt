-- What `assemble` answers.
use Rattle.std.specs.Prelude.{◌≡◌, ℕ, Option, Some}
use Rattle.mips_asm.specs.declared.asm_error.AsmError.{AsmError}
use Rattle.mips_asm.specs.declared.asm_error.AsmError.TheVariants.{Refused, NoMemory}

-- an error that tells a line's number and kind, or of a want of memory
abbrev pub IsFault : Option (ℕ × ℕ) → AsmError → Type 0
IsFault fault (Refused f) = fault ≡ Some (f.line, f.kind)
IsFault fault NoMemory = Unit {0}
