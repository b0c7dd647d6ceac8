use Rattle.std.proofs.Common.{◌≡◌, ℕ, length}
use Rattle.obj_reader.specs.Symbols.{is_ended}
use Rattle.obj_reader.proofs.symbols.ended_len.Given as goal

-- behind the rest is no 00
abbrev pub invariant-loop-byte : goal.invariant-loop-byte
invariant-loop-byte l = (at : ℕ) → is_ended l.fn.strings at ≡ is_ended l.rest at

abbrev pub decreases-loop-byte : goal.decreases-loop-byte
decreases-loop-byte l = length l.rest
