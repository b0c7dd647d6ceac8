-- The pieces of a span, from what is told of its method.
use Rattle.std.proofs.Common.{◌≡◌, ℕ, ◌+◌, ◌-◌, ◌<◌, ◌≤◌, List, [], ◌∷◌, ◌++◌, length, map, get_or, take, not, All, ap, sym, ◌∙◌, arith, append_assoc}
use Rattle.std.specs.Prelude.{filter, flat_map, zip}
use Rattle.std.specs.List.{range_with_len}
use Rattle.std.proofs.lemmas.List.{flat_map_more, map-append, take_more}
use Rattle.std.proofs.lemmas.List.Elements.{All-filter, All-map, All-weaker, filter-append}
use Rattle.std.proofs.lemmas.Slice.Zip.{length-zip, get_or-zip}
use Rattle.block_builder.specs.declared.block.Block.{Block}
use Rattle.method_splitter.specs.declared.span.Span.{Span}
use Rattle.emit_spans.specs.declared.stretch.Stretch.{Stretch}
use Rattle.emit_spans.specs.Pieces.{flagged, all_words, begins, piece_at, pieces_of}
use Rattle.emit_spans.specs.Laying.{stretch_at, stretches_of}
use Rattle.translate_classes.specs.declared.part.Part.{Part}
use Rattle.translate_classes.specs.declared.piece.Piece.{Piece}
use Rattle.translate_classes.specs.Parts.{IsSpan}
use Rattle.translate_classes.specs.Code.{span_at}
use Rattle.translate_classes.specs.Blocks.{is_slot, span_words, piece_of, pieces_of_span, first_pieces, placed, is_told, told_pieces}
use Rattle.translate_classes.proofs.ClassMaking.ZipLemmas.{range-more}
use Rattle.translate_classes.proofs.CodeBlocks.ListLemmas.{zip-maps, map-map, filter-map, filter-filter, range-all}

told-more : (part : Part) (j : ℕ) (xs ys : List (Block × Stretch)) → told_pieces part j (xs ++ ys) ≡ told_pieces part j xs ++ told_pieces part j ys
told-more part j xs ys =
    ap (map (placed part j)) (filter-append (is_told part) xs ys) ∙ map-append (placed part j) (filter (is_told part) xs) (filter (is_told part) ys)

-- one piece more
pub told-next : (part : Part) (j : ℕ) (ps : List Block) (ss : List Stretch) (n : ℕ) (p : Block) (s : Stretch) (start old new : List Piece)
    → n < length ps → n < length ss → p ≡ get_or ps n p → s ≡ get_or ss n s → old ≡ start ++ told_pieces part j (take n (zip ps ss))
    → new ≡ old ++ told_pieces part j ((p, s) ∷ []) → new ≡ start ++ told_pieces part j (take (n + 1) (zip ps ss))
told-next part j ps ss n p s start old new first second is are before after =
    let pairs = zip ps ss in
    let long : n < length pairs = omega (arith, length-zip ps ss) in
    let here : get_or pairs n (p, s) ≡ (p, s) = get_or-zip ps ss n (p, s) first second ∙ (λ i. (sym is i, sym are i)) in
    after
    ∙ ap (λ l. l ++ told_pieces part j ((p, s) ∷ [])) before
    ∙ append_assoc start (told_pieces part j (take n pairs)) (told_pieces part j ((p, s) ∷ []))
    ∙ ap (λ l. start ++ l) (sym (told-more part j (take n pairs) ((p, s) ∷ [])))
    ∙ ap (λ x. start ++ told_pieces part j (take n pairs ++ x ∷ [])) (sym here)
    ∙ ap (λ l. start ++ told_pieces part j l) (sym (take_more pairs n (p, s) long))

pub told-all : (part : Part) (spans : List Span) (j : ℕ)
    → told_pieces part j (zip (pieces_of part.units.now (flagged part.leads.now) (span_words part spans j))
    (stretches_of part.units.now (flagged part.leads.now) (span_words part spans j)))
    ≡ pieces_of_span part spans j
told-all part spans j =
    let units = part.units.now in
    let leads = flagged part.leads.now in
    let span = span_words part spans j in
    let begin = filter (begins leads span) (all_words span) in
    let pair : ℕ → Block × Stretch = λ k. (piece_at units leads span k, stretch_at units leads span k) in
    ap (told_pieces part j) (zip-maps (piece_at units leads span) (stretch_at units leads span) begin)
    ∙ ap (map (placed part j)) (filter-map (is_told part) pair begin)
    ∙ map-map (placed part j) pair (filter (λ (k : ℕ). is_told part (pair k)) begin)
    ∙ ap (map (piece_of part spans j)) (filter-filter (begins leads span) (λ (k : ℕ). not (is_slot units leads k)) (all_words span))

-- those of one span more
pub pieces-more : (part : Part) (spans : List Span) (k : ℕ)
    → first_pieces part spans (k + 1) ≡ first_pieces part spans k ++ pieces_of_span part spans k
pieces-more part spans k =
    ap (flat_map (pieces_of_span part spans)) (range-more k)
    ∙ sym (flat_map_more (pieces_of_span part spans) [] (range_with_len 0 k) k)

pub pieces-next : (part : Part) (spans : List Span) (k : ℕ) (ps : List Block) (ss : List Stretch) (old new : List Piece)
    → ps ≡ pieces_of part.units.now (flagged part.leads.now) (span_words part spans k)
    → ss ≡ stretches_of part.units.now (flagged part.leads.now) (span_words part spans k) → old ≡ first_pieces part spans k
    → new ≡ old ++ told_pieces part k (zip ps ss) → new ≡ first_pieces part spans (k + 1)
pieces-next part spans k ps ss old new pieces stretches before after =
    after
    ∙ (λ i. before i ++ told_pieces part k (zip (pieces i) (stretches i)))
    ∙ ap (λ l. first_pieces part spans k ++ l) (told-all part spans k)
    ∙ sym (pieces-more part spans k)

-- pieces begin with words of the range
pub pieces-within : (part : Part) (spans : List Span) (j : ℕ) → IsSpan part.words (span_at spans j)
    → All (λ (p : Block). p.first < length part.units.now) (pieces_of part.units.now (flagged part.leads.now) (span_words part spans j))
pieces-within part spans j own =
    let units = part.units.now in
    let leads = flagged part.leads.now in
    let span = span_words part spans j in
    let words = all_words span in
    All-map (λ (p : Block). p.first < length units) (piece_at units leads span) (filter (begins leads span) words)
    (All-filter (begins leads span) (λ k. k < length units) words
    (All-weaker (λ k. (span.first ≤ k) × (k < span.first + (span.end - span.first))) (λ k. k < length units)
    (λ k within. omega (arith, within.1, part.within, own.within)) words (range-all span.first (span.end - span.first))))
