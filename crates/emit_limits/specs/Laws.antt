-- What holds of the bytes and slots of code.
use Rattle.std.specs.Prelude.{ℕ, ◌+◌, ◌-◌, ◌*◌, ◌≤◌, All, Bool, List, Option, map, sum_by}
use Rattle.std.specs.List.{range_with_len}
use Rattle.delay_slots.specs.declared.unit.Unit.{Unit}
use Rattle.delay_slots.specs.Places.{Address, WordIndex}
use Rattle.block_builder.specs.Blocks.{unit_at}
use Rattle.emit_steps.specs.Widths.{size}
use Rattle.emit_instructions.specs.Units.{unit_code}
use Rattle.word_emitter.specs.declared.extent.Extent.{Extent}
use Rattle.word_emitter.specs.Exits.{exit_code}
use Rattle.word_emitter.specs.Pieces.{warm_code}
use Rattle.method_splitter.specs.Cuts.{Cuts, span_weight}
use Rattle.method_splitter.specs.declared.span.Span.{Span}
use Rattle.emit_spans.specs.declared.span_words.SpanWords.{SpanWords}
use Rattle.emit_spans.specs.Pieces.{all_words, span_of}
use Rattle.emit_spans.specs.Laying.{span_code}
use Rattle.emit_assembly.specs.Assembling.{slots_of}
use Rattle.emit_limits.specs.Weights.{unit_bytes, exit_bytes, register_bytes, weight_of}

-- ---- bytes

-- the code of a unit keeps to the unit's bytes, at every address and whatever registers are in local variables
abbrev pub UnitsKeepToTheirBytes : Type 0
UnitsKeepToTheirBytes =
    (bank : ℕ) (unit : Unit) (at : Address) → size (unit_code bank unit at) ≤ unit_bytes unit

-- so does the way from a unit
abbrev pub ExitsKeepToTheirBytes : Type 0
ExitsKeepToTheirBytes =
    (span : Extent) (behind : Option Address) (unit : Unit) (at : Address)
    → size (exit_code span behind unit at) ≤ exit_bytes unit

-- the warm code of a piece keeps to the bytes of its units and of the registers that they read or write
abbrev pub PiecesKeepToTheirBytes : Type 0
PiecesKeepToTheirBytes =
    (units : List Unit) (at : Address)
    → size (warm_code units at) ≤ sum_by (λ unit. unit_bytes unit + register_bytes unit) units

-- the method of a span has at most as many bytes as its words weigh
abbrev pub SpansKeepToTheirBytes : Type 0
SpansKeepToTheirBytes =
    (units : List Unit) (leads : ℕ → Bool) (span : SpanWords)
    → size (span_code units leads span)
    ≤ span_weight (map (λ k. weight_of span.metered (unit_at units k)) (all_words span))

-- where words, from one of their range on, are divided into spans by their weights, each method has at most as many bytes as a span may
abbrev pub DividedWordsKeepToTheLimit : Type 0
DividedWordsKeepToTheLimit =
    (metered : Bool) (units : List Unit) (leads : ℕ → Bool) (start : Address) (first : WordIndex)
    (count limit : ℕ) (spans : List Span)
    → Cuts 0 (map (λ k. weight_of metered (unit_at units (first + k))) (range_with_len 0 count))
    limit spans
    → All (λ s. size (span_code units leads
    (span_of metered start (first + s.first) s.words)) ≤ limit) spans

-- ---- slots

-- the constants of the method of a span take at most nine slots for each of its words, and two more
abbrev pub SpansTakeFewSlots : Type 0
SpansTakeFewSlots =
    (units : List Unit) (leads : ℕ → Bool) (span : SpanWords)
    → slots_of (span_code units leads span) ≤ 2 + 9 * (span.end - span.first)
