-- The turns of a piece as turns of the guest machine.
use Rattle.std.specs.Prelude.{◌≡◌, ℕ, ◌+◌, ◌<◌, ◌≤◌, All, Bool, List, length, Some}
use Rattle.run_definition.specs.Words.{IsWord}
use Rattle.run_definition.specs.Turn.{Turn}
use Rattle.run_simulation_laws.specs.Trail.{advanced}
use Rattle.mips_definition.specs.State.{State}
use Rattle.mips_definition.specs.Step.{turn}
use Rattle.delay_slots.specs.Units.{HasNoFloat, units_of}
use Rattle.delay_slots.specs.Places.{WordIndex}
use Rattle.delay_slots.specs.Turns as guest
use Rattle.emit_spans.specs.declared.span_words.SpanWords.{SpanWords}
use Rattle.emit_instructions_laws.specs.Pieces.{piece_turns}
use Rattle.emit_spans_laws.specs.InPieces.{own_units}

-- The machine makes so many turns from a state, of which this is the last. Those before it only move.
pub record AreTurns (x : State) (n : ℕ) (last : Turn State) : Type 0 where
  pub earlier : ℕ
  pub before : State
  pub comes : advanced turn earlier x ≡ Some before
  pub last_is : turn before ≡ last
  pub count : earlier + 1 ≡ n

-- how many turns the units of the piece that begins with word k take from a state, and the last one
abbrev pub own_turns : List ℕ → (ℕ → Bool) → SpanWords → WordIndex → State → ℕ × Turn State
own_turns words leads span k x = piece_turns (own_units (units_of words) leads span k) x

-- The guest machine makes the turns of that piece, and stands between units where they lead.
pub record PieceIsMade (words : List ℕ) (leads : ℕ → Bool) (span : SpanWords) (k : WordIndex)
    (x : State) : Type 0 where
  pub turns : AreTurns x (own_turns words leads span k x).0 (own_turns words leads span k x).1
  pub goes_on : guest.LeadsOn x (own_turns words leads span k x).1

-- It is so from each state in which the guest stands at a word of the span.
abbrev pub PiecesAreMade : Type 0
PiecesAreMade =
    (words : List ℕ) (leads : ℕ → Bool) (span : SpanWords) (k : WordIndex) (x : State)
    → guest.StandsAt x span.start words k
    → All IsWord words → HasNoFloat words
    → k < span.end → span.end ≤ length words
    → PieceIsMade words leads span k x
