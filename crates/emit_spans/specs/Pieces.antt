-- The pieces of a span: the parts of a range's blocks that lie in it. Words go by their numbers in the range.
use Rattle.std.specs.Prelude.{ℕ, ◌+◌, ◌-◌, Bool, false, not, ◌&&◌, ◌||◌, ◌==◌, min, List, map, filter, slice_index_or}
use Rattle.std.specs.List.{range_with_len}
use Rattle.delay_slots.specs.declared.unit.Unit.{Unit}
use Rattle.delay_slots.specs.Places.{Address, WordIndex}
use Rattle.block_builder.specs.declared.block.Block.{Block}
use Rattle.block_builder.specs.Blocks.{part_of, end_of, block_from}
use Rattle.emit_spans.specs.declared.span_words.SpanWords.{SpanWords}

-- with a meter or without, so many words from one on, of a range that begins at an address
abbrev pub span_of : Bool → Address → WordIndex → ℕ → SpanWords
span_of metered start first words =
    record { metered = metered; start = start; first = first; end = first + words }

-- flags, one for each word of the range
abbrev pub flagged : List Bool → WordIndex → Bool
flagged flags k = slice_index_or flags k false

-- the words of a span that stand before a word
abbrev pub words_before : SpanWords → WordIndex → List WordIndex
words_before span k = range_with_len span.first (k - span.first)

abbrev pub all_words : SpanWords → List WordIndex
all_words span = words_before span span.end

-- a piece begins with the span's first word, and with each leader in the span; with a meter, each
-- word stands alone
abbrev pub begins : (ℕ → Bool) → SpanWords → WordIndex → Bool
begins leads span k = not span.metered && (k == span.first || leads k)

-- the part that lies in the span of the block from a word on: its words, and the last of them, apart from that of a delay slot
abbrev pub piece_words : List Unit → (ℕ → Bool) → SpanWords → WordIndex → ℕ
piece_words units leads span k = min (block_from units leads k).words (span.end - k)

abbrev pub last_word : List Unit → (ℕ → Bool) → SpanWords → WordIndex → WordIndex
last_word units leads span k = min (end_of units leads k) (span.end - 1)

abbrev pub piece_at : List Unit → (ℕ → Bool) → SpanWords → WordIndex → Block
piece_at units leads span k = part_of units k (piece_words units leads span k)

abbrev pub pieces_of : List Unit → (ℕ → Bool) → SpanWords → List Block
pieces_of units leads span =
    map (piece_at units leads span) (filter (begins leads span) (all_words span))
