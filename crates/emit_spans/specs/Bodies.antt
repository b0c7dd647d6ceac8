-- The code of the words of a span while it is laid down, word by word.
use Rattle.std.specs.Prelude.{◌≡◌, ℕ, ◌+◌, ◌≤◌, if◌then◌else◌, List, map, filter, Bool}
use Rattle.delay_slots.specs.declared.unit.Unit.{Unit}
use Rattle.delay_slots.specs.Places.{WordIndex}
use Rattle.emit_steps.specs.Widths.{size}
use Rattle.emit_steps.specs.Offsets.{CodeOffset}
use Rattle.emit_spans.specs.declared.body.Body.{Body}
use Rattle.emit_spans.specs.declared.span_words.SpanWords.{SpanWords}
use Rattle.emit_spans.specs.Pieces.{words_before, begins, piece_at}
use Rattle.emit_spans.specs.Laying.{base, warm_before, cold_before, stretch_at}

-- where the code of a word begins: warm code in the method, each other code in the code of such words
abbrev pub part_offset : List Unit → (ℕ → Bool) → SpanWords → WordIndex → CodeOffset
part_offset units leads span k =
    if begins leads span k then base span + size (warm_before units leads span k)
    else size (cold_before units leads span k)

-- The codes of the words before one are laid down.
pub record IsBody (units : List Unit) (leads : ℕ → Bool) (span : SpanWords) (k : WordIndex)
    (b : Body) : Type 0 where
  pub warm : b.warm.steps.items ≡ warm_before units leads span k
  pub warm_end : b.warm.end ≡ base span + size (warm_before units leads span k)
  pub warm_small : b.warm.end ≤ 65535
  pub cold : b.cold.steps.items ≡ cold_before units leads span k
  pub cold_end : b.cold.end ≡ size (cold_before units leads span k)
  pub cold_small : b.cold.end ≤ 65535
  pub offsets : b.offsets.items ≡ map (part_offset units leads span) (words_before span k)
  pub pieces : b.pieces.items
      ≡ map (piece_at units leads span) (filter (begins leads span) (words_before span k))
  pub stretches : b.stretches.items
      ≡ map (stretch_at units leads span) (filter (begins leads span) (words_before span k))
