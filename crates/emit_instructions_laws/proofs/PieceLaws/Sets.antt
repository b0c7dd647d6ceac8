-- What is known before a piece, and the bank of none.
use Rattle.std.proofs.Common.{◌≡◌, ℕ, ◌==◌, ◌&&◌, Bool, true, false, not, List, ap, refl}
use Rattle.std.specs.Prelude.{nat_lt}
use Rattle.std.specs.Int.{bit_at}
use Rattle.std.proofs.lemmas.Bool.{or_right}
use Rattle.std.proofs.lemmas.Nat.Bits.{bit_at-zero}
use Rattle.delay_slots.specs.declared.unit.Unit.{Unit as Word}
use Rattle.emit_instructions.specs.Access.{keeps}
use Rattle.word_emitter.specs.Pieces.{bank_of, is_needed}
use Rattle.emit_simulation_laws.specs.Lawful.{AreAllKnown}
use Rattle.emit_instructions_laws.specs.Pieces.{known_first}

pub needed-first : (piece : List Word) → AreAllKnown (is_needed piece) (known_first piece)
needed-first piece r positive below needed = or_right (not (keeps (bank_of piece) r)) (is_needed piece r) needed

-- no register is in a bank of none
pub none-kept : (r : ℕ) → keeps 0 r ≡ false
none-kept r = by_width (nat_lt r 32)
  where
    by_width : (b : Bool) → (b && bit_at 0 r == 1) ≡ false
    by_width true = ap (λ n. n == 1) (bit_at-zero r)
    by_width false = refl
