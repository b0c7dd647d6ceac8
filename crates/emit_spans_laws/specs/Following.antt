-- When the classes follow the turns of a unit, whatever its code is counted to weigh.
use Rattle.std.specs.Prelude.{◌≡◌, ℕ, ◌+◌, ◌*◌, ◌≤◌, Bool, true, false, List, [], ◌∷◌, ◌++◌}
use Rattle.run_definition.specs.declared.order.Order.{Order}
use Rattle.run_definition.specs.Turn.{Turn}
use Rattle.mips_definition.specs.State.{State}
use Rattle.delay_slots.specs.declared.unit.Unit.{Unit}
use Rattle.delay_slots.specs.Places.{WordIndex}
use Rattle.delay_slots.specs.Units.{units_of}
use Rattle.delay_slots.specs.Turns.{unit_turns, turn_count, last_turn}
use Rattle.block_builder.specs.Blocks.{unit_at}
use Rattle.block_builder.specs.Leaders.{is_plain}
use Rattle.jvm_definition.specs.declared.instruction.Instruction.{Instruction}
use Rattle.jvm_definition.specs.Effect.{Workspace}
use Rattle.emit_steps.specs.Placing.{LiesAt}
use Rattle.emit_steps.specs.Widths.{size}
use Rattle.emit_steps.specs.Offsets.{CodeOffset}
use Rattle.emit_instructions.specs.Units.{unit_code}
use Rattle.word_emitter.specs.Pieces.{bank_of}
use Rattle.emit_spans.specs.declared.span_words.SpanWords.{SpanWords}
use Rattle.emit_spans.specs.Pieces.{begins}
use Rattle.emit_spans.specs.Laying.{entry_at}
use Rattle.emit_spans.specs.Neighbours.{address}
use Rattle.emit_spans.specs.Parts.{front_of}
use Rattle.emit_spans.specs.Standing.{unit_entry}
use Rattle.emit_simulation_laws.specs.Sites.{Site, stands, whole_weight}
use Rattle.emit_simulation_laws.specs.Following.{ComesToEnd, Follows}
use Rattle.emit_instructions_laws.specs.Units.{UnitArrives}
use Rattle.emit_spans_laws.specs.Counting.{SparesMoves}
use Rattle.emit_spans_laws.specs.Resuming.{Resumes, FollowsInSpan}
use Rattle.emit_spans_laws.specs.Spans.{HasSpan, StandsAt}
use Rattle.emit_spans_laws.specs.InPieces.{HasUnit, StandsInPiece, fetching, known_behind, offset_in, own_units}

-- The code of a unit, at an offset and over a bank, follows the unit's turns by paths of such a total.
abbrev pub UnitFollowsBy : Site → (bank : ℕ) → (ℕ → Bool) → (at : CodeOffset)
    → ((Instruction → ℕ) → ℕ) → Unit → Workspace → State → Type 0
UnitFollowsBy site bank known at total unit w x =
    Follows site at (at + size (unit_code bank unit x.pc)) (turn_count (unit_turns unit x))
    (132 * turn_count (unit_turns unit x)) total
    (UnitArrives bank known unit x.pc w) (stands site at w) (last_turn (unit_turns unit x))

-- From an offset the classes follow the turns of a unit to where they go on in the span, or to a return behind the unit, by paths that weigh no
-- more than such a total where moves of values, branches and returns weigh nothing.
pub record UnitGoesOn (site : Site) (units : List Unit) (leads : ℕ → Bool) (span : SpanWords)
    (at : CodeOffset) (least most : ℕ) (total : (Instruction → ℕ) → ℕ)
    (unit : Unit) (w : Workspace) (last : Turn State) : Type 0 where
  pub high : CodeOffset
  pub sum : (Instruction → ℕ) → ℕ
  pub spared : (weight : Instruction → ℕ) → SparesMoves weight → sum weight ≤ total weight
  pub follows : FollowsInSpan site at high least most sum (Resumes site units leads span unit)
      (stands site at w) last

-- From the code of the word with which a piece begins the classes come to the piece's first unit, and only fetch what the piece needs.
pub record EntersPiece (site : Site) (order : Order) (units : List Unit) (leads : ℕ → Bool)
    (span : SpanWords) (k : WordIndex) (w : Workspace) (x : State) : Type 0 where
  pub unit : Unit
  pub rest : List Unit
  pub comes : ComesToEnd site (entry_at units leads span k) (offset_in units leads span k []) 0 62
      (whole_weight order (fetching (own_units units leads span k)))
      (λ v. StandsInPiece order units leads span k [] unit rest v x)
      (stands site (entry_at units leads span k) w)

-- ---- words with which no piece begins

-- At an offset the code of the unit of such a word lies, over the fields of the registers.
pub record WordAloneIsFollowed (site : Site) (units : List Unit) (leads : ℕ → Bool)
    (span : SpanWords) (k : WordIndex) (at : CodeOffset) (w : Workspace) (x : State) : Type 0 where
  pub has : HasUnit site units span k 0 (λ r. true) at (unit_at units k) x
  -- if it follows the unit's turns, so do the classes, to where they go on
  pub goes_on : (total : (Instruction → ℕ) → ℕ)
      → UnitFollowsBy site 0 (λ r. true) at total (unit_at units k) w x
      → let turns = unit_turns (unit_at units k) x in
      UnitGoesOn site units leads span at (turn_count turns) (132 * turn_count turns + 8) total
      (unit_at units k) w (last_turn turns)

-- So it is with each word with which no piece begins, at its entry, in a span without a meter.
abbrev pub WordsAloneAreFollowed : Type 0
WordsAloneAreFollowed =
    (site : Site) (order : Order) (words : List ℕ) (leads : ℕ → Bool) (span : SpanWords)
    (k : WordIndex) (w : Workspace) (x : State)
    → HasSpan site words leads span
    → StandsAt order span k w x
    → begins leads span k ≡ false
    → span.metered ≡ false
    → WordAloneIsFollowed site (units_of words) leads span k (entry_at (units_of words) leads span k)
    w x

-- In any span, what stands in front of the unit of such a word lies at the word's entry, and the
-- unit is followed behind it.
pub record UnitIsFollowedBehindFront (site : Site) (units : List Unit) (leads : ℕ → Bool)
    (span : SpanWords) (k : WordIndex) (w : Workspace) (x : State) : Type 0 where
  pub front : LiesAt site.program site.method (entry_at units leads span k)
      (front_of span.metered (unit_at units k) (address span k))
  pub unit : WordAloneIsFollowed site units leads span k (unit_entry units leads span k) w x

abbrev pub UnitsAreFollowedBehindFronts : Type 0
UnitsAreFollowedBehindFronts =
    (site : Site) (order : Order) (words : List ℕ) (leads : ℕ → Bool) (span : SpanWords)
    (k : WordIndex) (w : Workspace) (x : State)
    → HasSpan site words leads span
    → StandsAt order span k w x
    → begins leads span k ≡ false
    → UnitIsFollowedBehindFront site (units_of words) leads span k w x

-- ---- pieces

-- From the code of each word with which a piece begins the classes come to the piece's first unit.
abbrev pub PiecesAreEntered : Type 0
PiecesAreEntered =
    (site : Site) (order : Order) (words : List ℕ) (leads : ℕ → Bool) (span : SpanWords)
    (k : WordIndex) (w : Workspace) (x : State)
    → HasSpan site words leads span
    → StandsAt order span k w x
    → begins leads span k ≡ true
    → EntersPiece site order (units_of words) leads span k w x

-- What they do until then weighs nothing where moves of values weigh nothing.
abbrev pub FetchingIsSpared : Type 0
FetchingIsSpared =
    (order : Order) (weight : Instruction → ℕ) (piece : List Unit)
    → SparesMoves weight
    → whole_weight order (fetching piece) weight ≡ 0

-- The code of a unit of the piece that begins with word k, behind the units that are done, follows
-- the unit's turns by paths of such a total.
abbrev pub FollowsInPiece : Site → List Unit → (ℕ → Bool) → SpanWords → WordIndex
    → (front : List Unit) → ((Instruction → ℕ) → ℕ) → Unit → Workspace → State → Type 0
FollowsInPiece site units leads span k front total unit w x =
    UnitFollowsBy site (bank_of (own_units units leads span k))
    (known_behind (own_units units leads span k) front) (offset_in units leads span k front)
    total unit w x

-- A unit of a piece is Plain where another one follows it.
pub record InnerUnitIsFollowed (site : Site) (order : Order) (units : List Unit) (leads : ℕ → Bool)
    (span : SpanWords) (k : WordIndex) (front : List Unit) (unit next : Unit) (rest : List Unit)
    (w : Workspace) (x : State) : Type 0 where
  pub plain : is_plain unit ≡ true
  -- if its code follows its turn, the classes come to the next unit
  pub comes : (total : (Instruction → ℕ) → ℕ)
      → FollowsInPiece site units leads span k front total unit w x
      → let done = front ++ unit ∷ [] in
      Follows site (offset_in units leads span k front) (offset_in units leads span k done)
      1 132 total (λ v t. StandsInPiece order units leads span k done next rest v t)
      (stands site (offset_in units leads span k front) w) (last_turn (unit_turns unit x))

-- So it is with each unit that another one follows in its piece.
abbrev pub InnerUnitsAreFollowed : Type 0
InnerUnitsAreFollowed =
    (site : Site) (order : Order) (words : List ℕ) (leads : ℕ → Bool) (span : SpanWords)
    (k : WordIndex) (front : List Unit) (unit next : Unit) (rest : List Unit) (w : Workspace)
    (x : State)
    → HasSpan site words leads span
    → StandsInPiece order (units_of words) leads span k front unit (next ∷ rest) w x
    → InnerUnitIsFollowed site order (units_of words) leads span k front unit next rest w x

-- If the code of the last unit of a piece follows the unit's turns, so do the classes, to where they
-- go on.
abbrev pub LastUnitsAreFollowed : Type 0
LastUnitsAreFollowed =
    (site : Site) (order : Order) (words : List ℕ) (leads : ℕ → Bool) (span : SpanWords)
    (k : WordIndex) (front : List Unit) (unit : Unit) (w : Workspace) (x : State)
    (total : (Instruction → ℕ) → ℕ)
    → HasSpan site words leads span
    → StandsInPiece order (units_of words) leads span k front unit [] w x
    → FollowsInPiece site (units_of words) leads span k front total unit w x
    → let turns = unit_turns unit x in
    UnitGoesOn site (units_of words) leads span (offset_in (units_of words) leads span k front)
    (turn_count turns) (132 * turn_count turns + 70) total unit w (last_turn turns)
