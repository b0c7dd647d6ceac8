-- Which fields emitted code writes.
use Rattle.std.specs.Prelude.{◌≡◌, ℕ, ◌<◌, ◌≤◌, All, Bool, true, List}
use Rattle.run_definition.specs.declared.order.Order.{Order}
use Rattle.delay_slots.specs.declared.unit.Unit.{Unit}
use Rattle.delay_slots.specs.Places.{Address, WordIndex}
use Rattle.emit_steps.specs.declared.step.Step.{Step}
use Rattle.emit_instructions.specs.Units.{unit_code}
use Rattle.mem_helpers.specs.Methods.{helper_code}
use Rattle.word_emitter.specs.Pieces.{warm_code}
use Rattle.emit_simulation_laws.specs.Lawful.{IsLawful}
use Rattle.emit_spans.specs.declared.span_words.SpanWords.{SpanWords}
use Rattle.emit_spans.specs.Laying.{span_code}
use Rattle.emit_spans.specs.Parts.{cold_part, unit_part, warm_part}
use Rattle.emit_paths_laws.specs.Classes.{puts}
use Rattle.emit_paths_laws.specs.Paths.{weigh}
use Rattle.emit_simulation_laws.specs.Sites.{whole_weight}
use Rattle.emit_methods_laws.specs.Naming.{all_well_of, fields_of}

-- the layout's fields come first: the registers, hi, lo, pc, the two tables of pages, and the link
abbrev pub layout_fields : ℕ
layout_fields = 38

-- Code has no write of a field behind so many.
abbrev pub WritesFirst : ℕ → List Step → Type 0
WritesFirst fields code = (f : ℕ) → fields ≤ f → weigh (puts f) code ≡ 0

-- Nor have the helper methods that it calls.
abbrev pub AllWritesFirst : ℕ → Order → List Step → Type 0
AllWritesFirst fields order code = (f : ℕ) → fields ≤ f → whole_weight order code (puts f) ≡ 0

abbrev pub AllWritesLayout : Order → List Step → Type 0
AllWritesLayout order code = AllWritesFirst layout_fields order code

-- ---- the laws

-- Code that names only what is there, and of fields the layout's or some more, writes these alone, whatever it calls.
abbrev pub NamedCodeWritesItsFields : Type 0
NamedCodeWritesItsFields =
    (fields : ℕ) (calls : ℕ → Bool) (class : ℕ) (gives : Bool) (code : List Step)
    → all_well_of fields calls class gives code ≡ true
    → WritesFirst fields code

-- So does each of the 20 helper methods, with those that it calls.
abbrev pub HelpersWriteLayout : Type 0
HelpersWriteLayout =
    (order : Order) (number : ℕ) → number < 20 → AllWritesLayout order (helper_code order number)

-- So does the code of a unit, wherever its registers are.
abbrev pub UnitsWriteLayout : Type 0
UnitsWriteLayout =
    (order : Order) (bank : ℕ) (at : Address) (unit : Unit)
    → IsLawful unit
    → AllWritesLayout order (unit_code bank unit at)

-- So does that of a piece.
abbrev pub PiecesWriteLayout : Type 0
PiecesWriteLayout =
    (order : Order) (at : Address) (piece : List Unit)
    → All IsLawful piece
    → AllWritesLayout order (warm_code piece at)

-- So does that of a piece in a span, and that of the unit of a word. With a meter, that of a word writes one field more.
pub record PartWritesLayout (order : Order) (k : WordIndex) (units : List Unit) (leads : ℕ → Bool)
    (span : SpanWords) : Type 0 where
  pub piece : AllWritesLayout order (warm_part units leads span k)
  pub unit : AllWritesLayout order (unit_part units leads span k)
  pub word : AllWritesFirst (fields_of span.metered) order (cold_part units leads span k)

abbrev pub PartsWriteLayout : Type 0
PartsWriteLayout =
    (order : Order) (k : WordIndex) (units : List Unit) (leads : ℕ → Bool) (span : SpanWords)
    → All IsLawful units
    → PartWritesLayout order k units leads span

-- So does the method of a span.
abbrev pub SpansWriteLayout : Type 0
SpansWriteLayout =
    (order : Order) (units : List Unit) (leads : ℕ → Bool) (span : SpanWords)
    → All IsLawful units
    → AllWritesFirst (fields_of span.metered) order (span_code units leads span)
