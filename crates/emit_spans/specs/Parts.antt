-- The code of the words of a span, before it is laid down: steps that leave name the addresses of words.
use Rattle.std.specs.Prelude.{ℕ, ◌+◌, ◌-◌, Bool, true, false, List, [], ◌++◌, length, Option}
use Rattle.delay_slots.specs.declared.unit.Unit.{Unit}
use Rattle.delay_slots.specs.Places.{Address, WordIndex}
use Rattle.block_builder.specs.Blocks.{unit_at}
use Rattle.emit_steps.specs.declared.step.Step.{Step}
use Rattle.emit_instructions.specs.Units.{unit_code}
use Rattle.word_emitter.specs.declared.extent.Extent.{Extent}
use Rattle.word_emitter.specs.Pieces.{piece_units, warm_code}
use Rattle.word_emitter.specs.Exits.{exit_code}
use Rattle.meter.specs.Guards.{guard_code}
use Rattle.emit_spans.specs.declared.span_words.SpanWords.{SpanWords}
use Rattle.emit_spans.specs.Pieces.{begins, piece_at}
use Rattle.emit_spans.specs.Neighbours.{address, is_inner, next_such}

abbrev pub extent : SpanWords → Extent
extent span = record { first = address span span.first; end = address span span.end }

-- where the guest goes on behind the unit of a word, with some code directly behind
abbrev pub exit_of : List Unit → SpanWords → Option Address → WordIndex → List Step
exit_of units span behind k = exit_code (extent span) behind (unit_at units k) (address span k)

-- the warm code of the piece that begins with a word
abbrev pub warm_part : List Unit → (ℕ → Bool) → SpanWords → WordIndex → List Step
warm_part units leads span k =
    let own = piece_units units (piece_at units leads span k) in
    warm_code own (address span k)
    ++ exit_of units span (next_such (begins leads span) span k) (k + length own - 1)

-- what stands in front of the code of a unit at an address: with a meter, the guard that takes its
-- turns off
abbrev pub front_of : Bool → Unit → Address → List Step
front_of true unit at = guard_code unit at
front_of false unit at = []

-- the code of the unit of a word alone, over the fields of the registers, with its exit
abbrev pub unit_part : List Unit → (ℕ → Bool) → SpanWords → WordIndex → List Step
unit_part units leads span k =
    unit_code 0 (unit_at units k) (address span k)
    ++ exit_of units span (next_such (is_inner leads span) span k) k

-- the code of a word alone
abbrev pub cold_part : List Unit → (ℕ → Bool) → SpanWords → WordIndex → List Step
cold_part units leads span k =
    front_of span.metered (unit_at units k) (address span k) ++ unit_part units leads span k
