use Rattle.std.proofs.Common.{◌≡◌, ℕ, ◌<◌, ◌==◌, ◌&&◌, ◌||◌, not, length}
use Rattle.std.specs.Int.{bit_at}
use Rattle.word_emitter.specs.Pieces.{is_needed}
use Rattle.word_emitter.proofs.registers.needed.Given as goal

-- what is needed before all units was found, or is needed before those that are left and not written so far
abbrev pub invariant-loop-unit : goal.invariant-loop-unit
invariant-loop-unit l =
    (r : ℕ) → r < 64 → ((bit_at l.needed r == 1) || (not (bit_at l.written r == 1) && is_needed l.rest r)) ≡ is_needed l.units r

abbrev pub decreases-loop-unit : goal.decreases-loop-unit
decreases-loop-unit l = length l.rest
