-- A program has few blocks: no more than words.
use Rattle.std.proofs.Common.{◌≡◌, ℕ, zero, suc, ◌+◌, ◌-◌, ◌*◌, ◌<◌, ◌≤◌, Bool, List, [], ◌∷◌, length, take, Option, ap, subst, arith, length-append}
use Rattle.std.specs.Prelude.{filter, sum_by}
use Rattle.std.specs.List.{AllZip}
use Rattle.std.proofs.lemmas.List.{length-map, take_all}
use Rattle.std.proofs.lemmas.List.FromFn.{length-map-range_with_len, length-range_with_len}
use Rattle.std.proofs.lemmas.List.Sums.{count_by-le-length, length-filter, sum_by_more}
use Rattle.method_splitter.specs.declared.span.Span.{Span}
use Rattle.emit_spans.specs.Pieces.{all_words, flagged}
use Rattle.translate_classes.specs.declared.part.Part.{Part}
use Rattle.translate_classes.specs.Blocks.{first_pieces, has_block, piece_of, pieces_of_class, pieces_of_span, span_words}
use Rattle.translate_classes.specs.Code.{span_at}
use Rattle.translate_classes.proofs.CodeBlocks.TellingLemmas.{pieces-more}
use Rattle.translate_program.specs.Blocks.{block_of, blocks_of, blocks_of_class}
use Rattle.translate_program.specs.Classes.{Placed, IsPlaced}
use Rattle.translate_program.specs.Places.{Place}
use Rattle.translate_program.specs.Spans.{AreSpans, weight_at, weights_of}
use Rattle.translate_program.proofs.Counts.SpanLemmas.{cut-words}

-- a span has no more pieces than words
span-pieces : (part : Part) (spans : List Span) (j : ℕ) → length (pieces_of_span part spans j) ≤ (span_at spans j).words
span-pieces part spans j =
    let span = span_words part spans j in
    let has = has_block part.units.now (flagged part.leads.now) span in
    let words = all_words span in
    omega (
      arith,
      length-map (filter has words) (piece_of part spans j),
      length-filter has words,
      count_by-le-length has words,
      length-range_with_len span.first (span.end - span.first),
    )

-- the first spans have no more pieces than words
abbrev Few : Part → List Span → ℕ → Type 0
Few part spans k = length (first_pieces part spans k) ≤ sum_by (λ (s : Span). s.words) (take k spans)

few-more : (part : Part) (spans : List Span) (k : ℕ) → k < length spans → Few part spans k → Few part spans (k + 1)
few-more part spans k less few =
    omega (
      arith,
      ap length (pieces-more part spans k),
      length-append (first_pieces part spans k) (pieces_of_span part spans k),
      span-pieces part spans k,
      few,
      sum_by_more (λ (s : Span). s.words) spans k (record { first = 0; words = 0 }) less,
    )

next : (k : ℕ) → k + 1 ≡ suc k
next k = omega arith

first-few : (part : Part) (spans : List Span) (k : ℕ) → k ≤ length spans → Few part spans k
first-few part spans zero within = omega arith
first-few part spans (suc k) within =
    let less : k < length spans = omega (arith, within) in
    subst (Few part spans) (next k) (few-more part spans k less (first-few part spans k (omega (arith, within))))

-- nor has a class, whose words end below 80000000
class-few : (method_bytes : ℕ) (c : Placed) → AreSpans c.part method_bytes c.spans → length (pieces_of_class c.part c.spans) ≤ 536870912
class-few method_bytes c are =
    let weights = weights_of c.part c.part.words in
    omega (
      arith,
      first-few c.part c.spans (length c.spans) (omega arith),
      ap (λ (l : List Span). sum_by (λ (s : Span). s.words) l) (take_all (length c.spans) c.spans (omega arith)),
      cut-words 0 weights method_bytes c.spans are.cuts,
      length-map-range_with_len (weight_at c.part) 0 c.part.words,
      c.part.within,
      c.part.low,
    )

pub blocks-few : (metered : Bool) (code : ℕ → Option ℕ) (method_bytes before : ℕ) (places : List Place) (classes : List Placed)
    → AllZip (IsPlaced metered code method_bytes) places classes → length (blocks_of before classes) ≤ 536870912 * length classes
blocks-few metered code method_bytes before [] [] each = omega arith
blocks-few metered code method_bytes before [] (c ∷ classes) each = absurd each
blocks-few metered code method_bytes before (place ∷ places) [] each = absurd each
blocks-few metered code method_bytes before (place ∷ places) (c ∷ classes) each =
    omega (
      arith,
      length-append (blocks_of_class before c) (blocks_of (before + length c.spans) classes),
      length-map (pieces_of_class c.part c.spans) (block_of before),
      class-few method_bytes c each.0.spans_are,
      blocks-few metered code method_bytes (before + length c.spans) places classes each.1,
    )
