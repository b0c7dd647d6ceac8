-- Where the blocks of a class of code stand. A piece is the part of a block that lies in one span. Each is told once, in rising order, but for one
-- that is only the delay slot of a branch in the span before.
use Rattle.std.specs.Prelude.{ℕ, ◌+◌, ◌-◌, ◌*◌, Bool, true, false, not, ◌&&◌, ◌==◌, List, map, filter, flat_map, length}
use Rattle.std.specs.List.{range_with_len}
use Rattle.delay_slots.specs.declared.unit.Unit.{Unit}
use Rattle.delay_slots.specs.declared.unit.Unit.TheVariants.{Branch}
use Rattle.block_builder.specs.declared.block.Block.{Block}
use Rattle.block_builder.specs.Blocks.{unit_at}
use Rattle.method_splitter.specs.declared.span.Span.{Span}
use Rattle.emit_spans.specs.declared.span_words.SpanWords.{SpanWords}
use Rattle.emit_spans.specs.declared.stretch.Stretch.{Stretch}
use Rattle.emit_spans.specs.Pieces.{flagged, span_of, all_words, begins, piece_words}
use Rattle.emit_spans.specs.Laying.{stretch_at}
use Rattle.translate_classes.specs.declared.part.Part.{Part}
use Rattle.translate_classes.specs.declared.piece.Piece.{Piece}
use Rattle.translate_classes.specs.Code.{span_at}

-- a branch with its delay slot, which is the next word
abbrev pub is_branch : Unit → Bool
is_branch (Branch i slot) = true
is_branch _ = false

-- a word of a range is the delay slot of the branch before it, and no block begins with it
abbrev pub is_slot : List Unit → (ℕ → Bool) → ℕ → Bool
is_slot units leads k = not (k == 0) && (not (leads k) && is_branch (unit_at units (k - 1)))

-- a piece of the span begins with a word, and is more than such a slot
abbrev pub has_block : List Unit → (ℕ → Bool) → SpanWords → ℕ → Bool
has_block units leads span k = begins leads span k && not (is_slot units leads k)

-- ---- the pieces of a class

-- the words of a span of the class, as words of the range
abbrev pub span_words : Part → List Span → ℕ → SpanWords
span_words part spans j =
    span_of part.metered part.start (part.first + (span_at spans j).first) (span_at spans j).words

-- the piece of a span that begins with a word of the range: its warm code in the method of the span, the address of its first word, and its words
abbrev pub piece_of : Part → List Span → ℕ → ℕ → Piece
piece_of part spans j k =
    let span = span_words part spans j in
    let stretch = stretch_at part.units.now (flagged part.leads.now) span k in
    record {
      span = j;
      from = stretch.from;
      to = stretch.to;
      first = part.start + 4 * k;
      words = piece_words part.units.now (flagged part.leads.now) span k;
    }

-- the pieces of a span
abbrev pub pieces_of_span : Part → List Span → ℕ → List Piece
pieces_of_span part spans j =
    let span = span_words part spans j in
    map (piece_of part spans j) (filter (has_block part.units.now (flagged part.leads.now) span)
    (all_words span))

-- those of the first spans, and of all
abbrev pub first_pieces : Part → List Span → ℕ → List Piece
first_pieces part spans count = flat_map (pieces_of_span part spans) (range_with_len 0 count)

abbrev pub pieces_of_class : Part → List Span → List Piece
pieces_of_class part spans = first_pieces part spans (length spans)

-- ---- while they are told, from what is told of the method of a span

-- a piece with its warm code
abbrev pub placed : Part → ℕ → Block × Stretch → Piece
placed part j p = record {
  span = j;
  from = p.1.from;
  to = p.1.to;
  first = part.start + 4 * p.0.first;
  words = p.0.words;
}

abbrev pub is_told : Part → Block × Stretch → Bool
is_told part p = not (is_slot part.units.now (flagged part.leads.now) p.0.first)

abbrev pub told_pieces : Part → ℕ → List (Block × Stretch) → List Piece
told_pieces part j pieces = map (placed part j) (filter (is_told part) pieces)
