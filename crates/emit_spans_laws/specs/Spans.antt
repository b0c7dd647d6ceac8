-- A method that is the method of a span of a range's words, and what its words and pieces do.
use Rattle.std.specs.Prelude.{◌≡◌, ℕ, ◌+◌, ◌-◌, ◌*◌, ◌^◌, ◌<◌, ◌≤◌, Bool, true, false, All, List, length, None}
use Rattle.run_definition.specs.declared.order.Order.{Order}
use Rattle.run_definition.specs.Words.{IsWord}
use Rattle.run_definition.specs.Turn.{Turn}
use Rattle.mips_definition.specs.State.{State}
use Rattle.delay_slots.specs.declared.unit.Unit.{Unit}
use Rattle.delay_slots.specs.Places.{WordIndex}
use Rattle.delay_slots.specs.Units.{HasNoFloat, units_of}
use Rattle.delay_slots.specs.Turns.{unit_turns, turn_count, last_turn}
use Rattle.block_builder.specs.Blocks.{unit_at}
use Rattle.jvm_definition.specs.Effect.{Workspace}
use Rattle.emit_steps.specs.Widths.{size}
use Rattle.emit_steps.specs.Placing.{LiesAt}
use Rattle.word_emitter.specs.Pieces.{piece_units}
use Rattle.emit_spans.specs.declared.span_words.SpanWords.{SpanWords}
use Rattle.emit_spans.specs.Pieces.{begins, piece_at}
use Rattle.emit_spans.specs.Neighbours.{address}
use Rattle.emit_spans.specs.Laying.{entry_at, span_code}
use Rattle.emit_spans.specs.Parts.{unit_part}
use Rattle.emit_spans.specs.Standing.{laid_part, unit_entry}
use Rattle.emit_simulation_laws.specs.Sites.{Site, stands, whole_weight}
use Rattle.emit_instructions_laws.specs.Instructions.{IsReady}
use Rattle.emit_instructions_laws.specs.Pieces.{piece_turns}
use Rattle.emit_spans_laws.specs.Resuming.{IsAtRest, Resumes, FollowsInSpan}

-- The site's method is that of a span of the words of a range.
pub record HasSpan (site : Site) (words : List ℕ) (leads : ℕ → Bool) (span : SpanWords)
    : Type 0 where
  pub lies : LiesAt site.program site.method 0 (span_code (units_of words) leads span)
  pub are_words : All IsWord words
  pub no_float : HasNoFloat words
  pub within : span.end ≤ length words
  pub below : span.start + 4 * length words < 2 ^ 32

-- The guest stands at a word of the span, with no branch pending, and the classes hold its state.
pub record StandsAt (order : Order) (span : SpanWords) (k : WordIndex) (w : Workspace) (x : State)
    : Type 0 where
  pub above : span.first ≤ k
  pub below : k < span.end
  pub rests : IsAtRest w x
  pub pc : x.pc ≡ address span k
  pub pending : x.pending ≡ None
  pub order_is : x.order ≡ order

-- From the code of a word they follow so many turns of the guest, the last of which is made by the unit of some word, with at least as many
-- turns and at most 264 for each of them.
abbrev pub WordFollows : Site → Order → List Unit → (ℕ → Bool) → SpanWords → WordIndex → Workspace
    → (last_word : WordIndex) → ℕ → Turn State → Type 0
WordFollows site order units leads span k w last_word n last =
    FollowsInSpan site (entry_at units leads span k)
    (entry_at units leads span k + size (laid_part units leads span k)) n (264 * n)
    (whole_weight order (laid_part units leads span k))
    (Resumes site units leads span (unit_at units last_word))
    (stands site (entry_at units leads span k) w) last

-- by the turns of its unit
abbrev pub FollowsUnit : Site → Order → List Unit → (ℕ → Bool) → SpanWords → WordIndex → Workspace
    → State → Type 0
FollowsUnit site order units leads span k w x =
    WordFollows site order units leads span k w k (turn_count (unit_turns (unit_at units k) x))
    (last_turn (unit_turns (unit_at units k) x))

-- by the turns of the units of its piece
abbrev pub FollowsPiece : Site → Order → List Unit → (ℕ → Bool) → SpanWords → WordIndex → Workspace
    → State → Type 0
FollowsPiece site order units leads span k w x =
    WordFollows site order units leads span k w
    (k + length (piece_units units (piece_at units leads span k)) - 1)
    (piece_turns (piece_units units (piece_at units leads span k)) x).0
    (piece_turns (piece_units units (piece_at units leads span k)) x).1

-- From the code of a word with which no piece begins they follow the turns of the word's unit, in a span without a meter.
abbrev pub SpanWordsFollow : Type 0
SpanWordsFollow =
    (site : Site) (order : Order) (words : List ℕ) (leads : ℕ → Bool) (span : SpanWords)
    (k : WordIndex) (w : Workspace) (x : State)
    → HasSpan site words leads span → IsReady site order
    → StandsAt order span k w x
    → begins leads span k ≡ false
    → span.metered ≡ false
    → FollowsUnit site order (units_of words) leads span k w x

-- the same from the code of the word's unit, behind what stands in front of it
abbrev pub FollowsUnitBehindFront : Site → Order → List Unit → (ℕ → Bool) → SpanWords → WordIndex
    → Workspace → State → Type 0
FollowsUnitBehindFront site order units leads span k w x =
    let at = unit_entry units leads span k in
    let n = turn_count (unit_turns (unit_at units k) x) in
    FollowsInSpan site at (at + size (unit_part units leads span k)) n (264 * n)
    (whole_weight order (unit_part units leads span k))
    (Resumes site units leads span (unit_at units k)) (stands site at w)
    (last_turn (unit_turns (unit_at units k) x))

-- So they follow it in any span.
abbrev pub UnitsFollowBehindFronts : Type 0
UnitsFollowBehindFronts =
    (site : Site) (order : Order) (words : List ℕ) (leads : ℕ → Bool) (span : SpanWords)
    (k : WordIndex) (w : Workspace) (x : State)
    → HasSpan site words leads span → IsReady site order
    → StandsAt order span k w x
    → begins leads span k ≡ false
    → FollowsUnitBehindFront site order (units_of words) leads span k w x

-- From that of a word with which a piece begins they follow the turns of all units of the piece.
abbrev pub SpanPiecesFollow : Type 0
SpanPiecesFollow =
    (site : Site) (order : Order) (words : List ℕ) (leads : ℕ → Bool) (span : SpanWords)
    (k : WordIndex) (w : Workspace) (x : State)
    → HasSpan site words leads span → IsReady site order
    → StandsAt order span k w x
    → begins leads span k ≡ true
    → FollowsPiece site order (units_of words) leads span k w x
