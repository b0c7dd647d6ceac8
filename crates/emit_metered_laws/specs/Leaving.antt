-- When emitted code leaves a field alone.
use Rattle.std.specs.Prelude.{◌≡◌, ◌≢◌, ℕ, ◌+◌, ◌-◌, ◌*◌, ◌^◌, ◌<◌, ◌≤◌, All, Bool, true, false, List, [], length, Option, None}
use Rattle.run_definition.specs.declared.order.Order.{Order}
use Rattle.run_definition.specs.Turn.{Turn}
use Rattle.mips_definition.specs.State.{State}
use Rattle.delay_slots.specs.declared.unit.Unit.{Unit}
use Rattle.delay_slots.specs.Places.{WordIndex}
use Rattle.delay_slots.specs.Units.{units_of}
use Rattle.delay_slots.specs.Turns.{unit_turns, turn_count, last_turn}
use Rattle.block_builder.specs.Blocks.{unit_at}
use Rattle.jvm_definition.specs.declared.value.Value.{Value}
use Rattle.emit_steps.specs.Offsets.{CodeOffset}
use Rattle.jvm_definition.specs.Program.{Program}
use Rattle.jvm_definition.specs.Effect.{Workspace, gives}
use Rattle.jvm_definition.specs.Step as machine
use Rattle.jvm_definition_laws.specs.Stretch.{body_workspace}
use Rattle.emit_steps.specs.Outcomes.{outcome, stopped}
use Rattle.emit_steps.specs.Placing.{LiesAt}
use Rattle.emit_steps.specs.Widths.{size}
use Rattle.emit_instructions.specs.Units.{unit_code}
use Rattle.mem_helpers.specs.Methods.{helper_code}
use Rattle.word_emitter.specs.Pieces.{piece_units, warm_code}
use Rattle.emit_simulation_laws.specs.Lawful.{IsLawful, KnownByUnit}
use Rattle.emit_spans.specs.declared.span_words.SpanWords.{SpanWords}
use Rattle.emit_spans.specs.Laying.{entry_at}
use Rattle.emit_spans.specs.Pieces.{begins, piece_at}
use Rattle.emit_spans.specs.Parts.{unit_part}
use Rattle.emit_spans.specs.Standing.{laid_part, unit_entry}
use Rattle.emit_paths_laws.specs.Laws.{EntersCode}
use Rattle.emit_simulation_laws.specs.Holding.{HoldsOn}
use Rattle.emit_simulation_laws.specs.Sites.{Site, stands, whole_weight}
use Rattle.emit_simulation_laws.specs.Following.{Follows}
use Rattle.emit_instructions_laws.specs.Instructions.{IsReady}
use Rattle.emit_instructions_laws.specs.Pieces.{AreStraight, HoldsAll, PieceArrives, piece_turns}
use Rattle.emit_instructions_laws.specs.Units.{UnitArrives}
use Rattle.emit_spans_laws.specs.Resuming.{FollowsInSpan, Resumes}
use Rattle.emit_spans_laws.specs.Spans.{HasSpan, StandsAt}
use Rattle.emit_metered_laws.specs.Writing.{layout_fields}

-- what is said of where code has come to, and that a field holds what it did before
abbrev pub Leaving : ℕ → (ℕ → Value) → (Workspace → State → Type 0) → Workspace → State → Type 0
Leaving f before Arrives w t = Arrives w t × (w.fields f ≡ before f)

abbrev pub LeavingInSpan : ℕ → (ℕ → Value) → (machine.JvmState → State → Type 0) → machine.JvmState
    → State → Type 0
LeavingInSpan f before Arrives y t = Arrives y t × (y.fields f ≡ before f)

-- ---- the laws, of each field that is none of the layout's

-- A helper that returns has left it alone.
abbrev pub HelpersLeaveOthers : Type 0
HelpersLeaveOthers =
    (program : Program) (order : Order) (words m : ℕ) (at : CodeOffset) (number n j f : ℕ)
    (w caller v back : Workspace) (given : List Value) (result : Option Value)
    (others : List machine.Frame)
    → number < 20
    → layout_fields ≤ f
    → EntersCode program words m m at number number w given caller (helper_code order number) others
    → outcome program words (helper_code order number) (body_workspace given caller)
    ≡ stopped n j v (gives result back)
    → back.fields f ≡ w.fields f

-- The code of a unit follows the unit's turns, and leaves it alone.
abbrev pub UnitsLeaveOthers : Type 0
UnitsLeaveOthers =
    (unit : Unit) (site : Site) (order : Order) (bank : ℕ) (known : ℕ → Bool) (at : CodeOffset)
    (f : ℕ) (w : Workspace) (x : State)
    → IsLawful unit
    → layout_fields ≤ f
    → IsReady site order
    → x.order ≡ order
    → LiesAt site.program site.method at (unit_code bank unit x.pc)
    → KnownByUnit known unit
    → HoldsOn bank known w x
    → Follows site at (at + size (unit_code bank unit x.pc)) (turn_count (unit_turns unit x))
    (132 * turn_count (unit_turns unit x)) (whole_weight order (unit_code bank unit x.pc))
    (Leaving f w.fields (UnitArrives bank known unit x.pc w)) (stands site at w)
    (last_turn (unit_turns unit x))

-- So does that of a piece.
abbrev pub PiecesLeaveOthers : Type 0
PiecesLeaveOthers =
    (piece : List Unit) (site : Site) (order : Order) (at : CodeOffset) (f : ℕ) (w : Workspace)
    (x : State)
    → piece ≢ []
    → All IsLawful piece
    → AreStraight piece
    → layout_fields ≤ f
    → IsReady site order
    → x.order ≡ order
    → x.pending ≡ None
    → x.pc + 4 * length piece < 2 ^ 32
    → LiesAt site.program site.method at (warm_code piece x.pc)
    → HoldsAll w x
    → Follows site at (at + size (warm_code piece x.pc)) (piece_turns piece x).0
    (256 * (piece_turns piece x).0) (whole_weight order (warm_code piece x.pc))
    (Leaving f w.fields (PieceArrives piece x.pc w)) (stands site at w) (piece_turns piece x).1

-- In the method of a span, from the code of a word to where the classes go on, it is left alone while they follow so many turns of the guest.
abbrev pub WordLeaves : ℕ → Site → Order → List Unit → (ℕ → Bool) → SpanWords → WordIndex
    → Workspace → (last_word : WordIndex) → ℕ → Turn State → Type 0
WordLeaves f site order units leads span k w last_word n last =
    FollowsInSpan site (entry_at units leads span k)
    (entry_at units leads span k + size (laid_part units leads span k)) n (264 * n)
    (whole_weight order (laid_part units leads span k))
    (LeavingInSpan f w.fields (Resumes site units leads span (unit_at units last_word)))
    (stands site (entry_at units leads span k) w) last

-- So it is from words with which no piece begins, in a span without a meter.
abbrev pub WordsLeaveOthers : Type 0
WordsLeaveOthers =
    (site : Site) (order : Order) (words : List ℕ) (leads : ℕ → Bool) (span : SpanWords)
    (k : WordIndex) (f : ℕ) (w : Workspace) (x : State)
    → layout_fields ≤ f
    → HasSpan site words leads span → IsReady site order
    → StandsAt order span k w x
    → begins leads span k ≡ false
    → span.metered ≡ false
    → let unit = unit_at (units_of words) k in
    WordLeaves f site order (units_of words) leads span k w k (turn_count (unit_turns unit x))
    (last_turn (unit_turns unit x))

-- So it is in any span from the code of the unit of such a word, behind what stands in front of it: the field of the meter is left alone too.
abbrev pub UnitsBehindFrontsLeaveOthers : Type 0
UnitsBehindFrontsLeaveOthers =
    (site : Site) (order : Order) (words : List ℕ) (leads : ℕ → Bool) (span : SpanWords)
    (k : WordIndex) (f : ℕ) (w : Workspace) (x : State)
    → layout_fields ≤ f
    → HasSpan site words leads span → IsReady site order
    → StandsAt order span k w x
    → begins leads span k ≡ false
    → let own = units_of words in
    let unit = unit_at own k in
    let at = unit_entry own leads span k in
    let n = turn_count (unit_turns unit x) in
    FollowsInSpan site at (at + size (unit_part own leads span k)) n (264 * n)
    (whole_weight order (unit_part own leads span k))
    (LeavingInSpan f w.fields (Resumes site own leads span unit)) (stands site at w)
    (last_turn (unit_turns unit x))

-- So it is from words with which one begins.
abbrev pub SpanPiecesLeaveOthers : Type 0
SpanPiecesLeaveOthers =
    (site : Site) (order : Order) (words : List ℕ) (leads : ℕ → Bool) (span : SpanWords)
    (k : WordIndex) (f : ℕ) (w : Workspace) (x : State)
    → layout_fields ≤ f
    → HasSpan site words leads span → IsReady site order
    → StandsAt order span k w x
    → begins leads span k ≡ true
    → let piece = piece_units (units_of words) (piece_at (units_of words) leads span k) in
    WordLeaves f site order (units_of words) leads span k w (k + length piece - 1)
    (piece_turns piece x).0 (piece_turns piece x).1
