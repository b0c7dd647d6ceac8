-- The pieces of a class rise.
use Rattle.std.proofs.Common.{◌≡◌, ℕ, ◌+◌, ◌-◌, ◌*◌, ◌<◌, ◌≤◌, Bool, true, not, List, length, All, refl, arith}
use Rattle.std.specs.Prelude.{filter, AllPairs}
use Rattle.std.proofs.lemmas.Bool.{and_parts}
use Rattle.std.proofs.lemmas.List.Elements.{All-filter, All-map, All-weaker}
use Rattle.delay_slots.specs.declared.unit.Unit.{Unit}
use Rattle.method_splitter.specs.declared.span.Span.{Span}
use Rattle.emit_spans.specs.declared.span_words.SpanWords.{SpanWords}
use Rattle.emit_spans.specs.Pieces.{flagged, words_before, all_words, begins}
use Rattle.emit_spans.specs.Parts.{warm_part}
use Rattle.emit_spans.specs.Laying.{stretch_at}
use Rattle.emit_spans.proofs.BodyLemmas.{kept-more, size-more, size-rises}
use Rattle.translate_classes.specs.declared.part.Part.{Part}
use Rattle.translate_classes.specs.declared.piece.Piece.{Piece}
use Rattle.translate_classes.specs.Code.{span_at}
use Rattle.translate_classes.specs.Blocks.{is_slot, has_block, span_words, piece_of, pieces_of_span, pieces_of_class}
use Rattle.translate_classes.proofs.CodeBlocks.ListLemmas.{range-all, range-rises, filter-pairs, map-pairs, flat-all, flat-pairs}

-- a piece stands behind another: its words begin later, and in one span its code stands behind that of the other
abbrev pub Follows : Piece → Piece → Type 0
Follows a b = (a.first < b.first) × (a.span ≡ b.span → a.to ≤ b.from)

-- a span begins where another ends, or behind that
abbrev pub IsBehind : Span → Span → Type 0
IsBehind s t = s.first + s.words ≤ t.first

-- ---- in one span

-- the code of a piece ends where that of a later word begins, or before that
stretch-before : (units : List Unit) (leads : ℕ → Bool) (span : SpanWords) (k j : ℕ) → span.first ≤ k → k < j → begins leads span k ≡ true
    → (stretch_at units leads span k).to ≤ (stretch_at units leads span j).from
stretch-before units leads span k j from before is =
    let F = warm_part units leads span in
    let begin = begins leads span in
    let more = size-more F (filter begin (words_before span k)) (filter begin (words_before span (k + 1))) k (kept-more begin span k from is) in
    let rises = size-rises F begin (record { metered = span.metered; start = span.start; first = span.first; end = j }) (k + 1) (omega arith) (omega arith) in
    omega (arith, more, rises)

span-rises : (part : Part) (spans : List Span) (j : ℕ) → AllPairs Follows (pieces_of_span part spans j)
span-rises part spans j =
    let units = part.units.now in
    let leads = flagged part.leads.now in
    let span = span_words part spans j in
    let has = has_block units leads span in
    let words = all_words span in
    let rise = filter-pairs (λ x y. (span.first ≤ x) × (x < y)) has words (range-rises span.first (span.end - span.first)) in
    map-pairs Follows (piece_of part spans j) (filter has words)
    (λ x y d before within.
    let pair = rise x y d before within in (
      omega (arith, pair.1.1),
      λ same. stretch-before units leads span _ _ pair.1.0 pair.1.1 (and_parts (begins leads span _) (not (is_slot units leads _)) pair.0).0,
    ))

-- ---- in all of them

-- where the words of a span's pieces begin
abbrev BeginsIn : Part → List Span → ℕ → Piece → Type 0
BeginsIn part spans j p =
    (part.start + 4 * (part.first + (span_at spans j).first) ≤ p.first)
    × (p.first < part.start + 4 * (part.first + (span_at spans j).first + (span_at spans j).words)) × (p.span ≡ j)

span-begins : (part : Part) (spans : List Span) (j : ℕ) → All (BeginsIn part spans j) (pieces_of_span part spans j)
span-begins part spans j =
    let span = span_words part spans j in
    let has = has_block part.units.now (flagged part.leads.now) span in
    let words = all_words span in
    All-map (BeginsIn part spans j) (piece_of part spans j) (filter has words)
    (All-filter has (λ k. BeginsIn part spans j (piece_of part spans j k)) words
    (All-weaker (λ k. (span.first ≤ k) × (k < span.first + (span.end - span.first))) (λ k. BeginsIn part spans j (piece_of part spans j k))
    (λ k within. (omega (arith, within.0), omega (arith, within.1), refl)) words (range-all span.first (span.end - span.first))))

pub pieces-rise : (part : Part) (spans : List Span) → AllPairs IsBehind spans → AllPairs Follows (pieces_of_class part spans)
pieces-rise part spans behind =
    flat-pairs Follows (pieces_of_span part spans) 0 (length spans) (λ j from within. span-rises part spans j)
    (λ i j from before within.
    let apart = behind i j (record { first = 0; words = 0 }) before (omega (arith, within)) in
    All-weaker (BeginsIn part spans i) (λ a. All (Follows a) (pieces_of_span part spans j))
    (λ a first.
    All-weaker (BeginsIn part spans j) (Follows a) (λ b second.
    (omega (arith, first.1, second.0, apart), λ same. absurd (omega (arith, first.2, second.2, same))))
    (pieces_of_span part spans j) (span-begins part spans j))
    (pieces_of_span part spans i) (span-begins part spans i))

-- pieces are of spans of the class
pub pieces-numbered : (part : Part) (spans : List Span) → All (λ (p : Piece). p.span < length spans) (pieces_of_class part spans)
pieces-numbered part spans =
    flat-all (λ (p : Piece). p.span < length spans) (pieces_of_span part spans) 0 (length spans)
    (λ j from within.
    All-weaker (BeginsIn part spans j) (λ (p : Piece). p.span < length spans) (λ p is. omega (arith, is.2, within)) (pieces_of_span part spans j)
    (span-begins part spans j))
