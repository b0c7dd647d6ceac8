-- The classes in the middle of a piece.
use Rattle.std.specs.Prelude.{◌≡◌, ℕ, ◌+◌, ◌<◌, ◌≤◌, Bool, true, false, List, [], ◌∷◌, ◌++◌, length, None}
use Rattle.std.specs.List.{flat_map}
use Rattle.run_definition.specs.declared.order.Order.{Order}
use Rattle.mips_definition.specs.State.{State}
use Rattle.delay_slots.specs.declared.unit.Unit.{Unit}
use Rattle.delay_slots.specs.Places.{Address, WordIndex}
use Rattle.delay_slots.specs.Units.{units_of}
use Rattle.block_builder.specs.Blocks.{unit_at}
use Rattle.block_builder.specs.Registers.{unit_writes}
use Rattle.jvm_definition.specs.declared.value.Value.TheVariants.{Int as int}
use Rattle.jvm_definition.specs.Effect.{Workspace}
use Rattle.emit_steps.specs.declared.step.Step.{Step}
use Rattle.emit_steps.specs.Offsets.{CodeOffset}
use Rattle.emit_steps.specs.Widths.{size}
use Rattle.emit_steps.specs.Placing.{LiesAt}
use Rattle.emit_layout.specs.FieldNumbers.{register_field}
use Rattle.emit_instructions.specs.Units.{unit_code}
use Rattle.word_emitter.specs.Pieces.{bank_of, fetched, for_registers, is_needed, is_written, piece_units, units_code}
use Rattle.emit_simulation_laws.specs.Knowing.{gained}
use Rattle.emit_simulation_laws.specs.Lawful.{IsLawful, KnownByUnit}
use Rattle.emit_spans.specs.declared.span_words.SpanWords.{SpanWords}
use Rattle.emit_spans.specs.Pieces.{begins, piece_at}
use Rattle.emit_spans.specs.Neighbours.{address}
use Rattle.emit_spans.specs.Laying.{entry_at}
use Rattle.emit_simulation_laws.specs.Holding.{HoldsOn}
use Rattle.emit_simulation_laws.specs.Sites.{Site}
use Rattle.emit_instructions_laws.specs.Pieces.{known_first}
use Rattle.emit_spans_laws.specs.Spans.{HasSpan}

-- ---- some units of a piece are done

-- the code before the units: what they need is fetched
abbrev pub fetching : List Unit → List Step
fetching piece = for_registers (is_needed piece) fetched

-- how far into the code of the piece: what is fetched, and the units that are done
abbrev pub middle_of : List Unit → List Unit → Address → ℕ
middle_of piece front a = size (fetching piece ++ units_code (bank_of piece) front a)

-- the registers that are known there
abbrev pub known_behind : List Unit → List Unit → ℕ → Bool
known_behind piece front = gained (flat_map unit_writes front) (known_first piece)

-- The classes stand in the middle of a piece: some of its units are done, others follow. What the piece needs or the done units have written is
-- in local variables, and what they have not written is still in its field.
pub record IsInPiece (piece front : List Unit) (w : Workspace) (t : State) : Type 0 where
  pub held : HoldsOn (bank_of piece) (known_behind piece front) w t
  pub unwritten : (r : ℕ) → 0 < r → r < 32 → is_written front r ≡ false
      → w.fields (register_field r) ≡ int (t.registers r)
  pub no_operands : w.operands ≡ []

-- ---- in a span

-- the units of the piece that begins with a word
abbrev pub own_units : List Unit → (ℕ → Bool) → SpanWords → WordIndex → List Unit
own_units units leads span k = piece_units units (piece_at units leads span k)

-- the offset in its code behind some of them
abbrev pub offset_in : List Unit → (ℕ → Bool) → SpanWords → WordIndex → List Unit → CodeOffset
offset_in units leads span k front =
    entry_at units leads span k + middle_of (own_units units leads span k) front (address span k)

-- The guest stands at a unit of the piece that begins with word k, with no branch pending, and the classes hold its state there: the units before it
-- are done, and the rest follows.
pub record StandsInPiece (order : Order) (units : List Unit) (leads : ℕ → Bool) (span : SpanWords)
    (k : WordIndex) (front : List Unit) (unit : Unit)
    (rest : List Unit) (w : Workspace) (x : State) : Type 0 where
  pub above : span.first ≤ k
  pub below : k < span.end
  pub begin : begins leads span k ≡ true
  pub parts : own_units units leads span k ≡ front ++ unit ∷ rest
  pub inside : IsInPiece (own_units units leads span k) front w x
  pub pc : x.pc ≡ address span (k + length front)
  pub pending : x.pending ≡ None
  pub order_is : x.order ≡ order

-- ---- the code of a unit

-- The code of a unit of the span, that of a word, lies at an offset, over a bank, and what it reads is known.
pub record HasUnit (site : Site) (units : List Unit) (span : SpanWords) (word : WordIndex)
    (bank : ℕ) (known : ℕ → Bool) (at : CodeOffset) (unit : Unit) (x : State) : Type 0 where
  pub above : span.first ≤ word
  pub below : word < span.end
  pub is_there : unit ≡ unit_at units word
  pub lawful : IsLawful unit
  pub lies : LiesAt site.program site.method at (unit_code bank unit x.pc)
  pub knows : KnownByUnit known unit

-- What is known of a unit of the piece that begins with word k, behind the units that are done.
pub record HasUnitInPiece (site : Site) (units : List Unit) (leads : ℕ → Bool) (span : SpanWords)
    (k : WordIndex) (front : List Unit) (unit : Unit) (x : State) : Type 0 where
  -- its code lies there, over local variables, and finds known what it reads
  pub has : HasUnit site units span (k + length front)
      (bank_of (own_units units leads span k)) (known_behind (own_units units leads span k) front)
      (offset_in units leads span k front) unit x
  -- no piece begins with a word in the middle of another one
  pub inner : 1 ≤ length front → begins leads span (k + length front) ≡ false

-- It is so wherever the classes stand in a piece.
abbrev pub UnitsStandInPieces : Type 0
UnitsStandInPieces =
    (site : Site) (order : Order) (words : List ℕ) (leads : ℕ → Bool) (span : SpanWords)
    (k : WordIndex) (front : List Unit) (unit : Unit) (rest : List Unit) (w : Workspace) (x : State)
    → HasSpan site words leads span
    → StandsInPiece order (units_of words) leads span k front unit rest w x
    → HasUnitInPiece site (units_of words) leads span k front unit x
