-- What holds of the code of every span.
use Rattle.std.specs.Prelude.{◌≡◌, ℕ, ◌+◌, ◌<◌, ◌≤◌, ◌++◌, Bool, true, List, length}
use Rattle.std.specs.List.{list_all}
use Rattle.delay_slots.specs.declared.unit.Unit.{Unit}
use Rattle.delay_slots.specs.Places.{Address, WordIndex}
use Rattle.block_builder.specs.Blocks.{AreUnits, IsPiece}
use Rattle.block_builder.specs.Leaders.{is_leader}
use Rattle.emit_steps.specs.Switches.{switches_are_placed}
use Rattle.emit_spans.specs.declared.span_words.SpanWords.{SpanWords}
use Rattle.emit_spans.specs.Pieces.{piece_at, piece_words}
use Rattle.emit_spans.specs.Parts.{extent}
use Rattle.emit_spans.specs.Laying.{entry_at, warm_before, cold_before, span_code}
use Rattle.emit_spans.specs.Keeping.{keeps_to}
use Rattle.emit_spans.specs.Standing.{StandsAt, laid_part}

-- the switch stands at an offset at which it needs no padding, and there is no other
abbrev pub NoSwitchNeedsPadding : Type 0
NoSwitchNeedsPadding =
    (units : List Unit) (leads : ℕ → Bool) (span : SpanWords)
    → switches_are_placed 0 (span_code units leads span) ≡ true

-- before they are laid down, the codes of words go on to addresses of words of the span alone
abbrev pub WordsKeepToTheirSpan : Type 0
WordsKeepToTheirSpan =
    (units : List Unit) (leads : ℕ → Bool) (span : SpanWords)
    → list_all (keeps_to (extent span))
    (warm_before units leads span span.end ++ cold_before units leads span span.end)
    ≡ true

-- the code of each word stands where the switch goes for it
abbrev pub WordsStandAtTheirEntries : Type 0
WordsStandAtTheirEntries =
    (units : List Unit) (leads : ℕ → Bool) (span : SpanWords) (k : WordIndex)
    → span.first ≤ k
    → k < span.end
    → StandsAt (span_code units leads span) (laid_part units leads span k)
    (entry_at units leads span k)

-- pieces are words of blocks
abbrev pub PiecesAreOfBlocks : Type 0
PiecesAreOfBlocks =
    (units : List Unit) (leads : ℕ → Bool) (span : SpanWords) (k : WordIndex)
    → AreUnits units
    → k < span.end
    → span.end ≤ length units
    → IsPiece units (piece_at units leads span k)

-- where the leaders lead, one of them stands behind each piece that does not end with its span
abbrev pub PiecesFollowEachOther : Type 0
PiecesFollowEachOther =
    (units : List Unit) (leads : ℕ → Bool) (start : Address) (span : SpanWords) (k : WordIndex)
    → ((j : WordIndex) → j < length units → leads j ≡ is_leader units start j)
    → k < span.end
    → span.end ≤ length units
    → k + piece_words units leads span k < span.end
    → leads (k + piece_words units leads span k) ≡ true
