-- Which words have their code directly behind each other.
use Rattle.std.specs.Prelude.{ℕ, ◌+◌, ◌-◌, ◌*◌, Bool, not, find, Option}
use Rattle.std.specs.List.{range_with_len}
use Rattle.std.specs.Option.{option_map}
use Rattle.delay_slots.specs.Places.{Address, WordIndex}
use Rattle.emit_spans.specs.declared.span_words.SpanWords.{SpanWords}
use Rattle.emit_spans.specs.Pieces.{begins}

abbrev pub address : SpanWords → WordIndex → Address
address span k = span.start + 4 * k

-- a word with which no piece begins
abbrev pub is_inner : (ℕ → Bool) → SpanWords → WordIndex → Bool
is_inner leads span k = not (begins leads span k)

-- the address of the next word of the span that passes a test: the code of such words is laid down in a row
abbrev pub next_such : (ℕ → Bool) → SpanWords → WordIndex → Option Address
next_such test span k =
    option_map (address span) (find test (range_with_len (k + 1) (span.end - (k + 1))))
