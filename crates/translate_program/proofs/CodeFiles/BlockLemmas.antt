-- The blocks of classes, one class more, and those of one class, which rise.
use Rattle.std.proofs.Common.{◌≡◌, ℕ, zero, suc, ◌+◌, ◌<◌, ◌≤◌, List, [], ◌∷◌, ◌++◌, length, drop, All, Some, ap, sym, ◌∙◌, arith, append_assoc, subst}
use Rattle.std.specs.Prelude.{AllPairs, slice_get, slice_index_or}
use Rattle.std.proofs.lemmas.List.{append-nil, length-append}
use Rattle.std.proofs.lemmas.List.Elements.{All-nil, All-cons, All-weaker}
use Rattle.std.proofs.lemmas.List.FromFn.{length-map-range_with_len}
use Rattle.std.proofs.lemmas.List.Kept.{AllPairs-cons}
use Rattle.method_splitter.specs.Cuts.{Cuts}
use Rattle.method_splitter.specs.declared.span.Span.{Span}
use Rattle.translate_classes.specs.Blocks.{pieces_of_class}
use Rattle.translate_classes.proofs.CodeBlocks.ListLemmas.{map-pairs}
use Rattle.translate_classes.proofs.CodeBlocks.RisingLemmas.{IsBehind, pieces-rise}
use Rattle.translate_program.specs.declared.block_info.BlockInfo.{BlockInfo}
use Rattle.translate_program.specs.Spans.{AreSpans, weights_of}
use Rattle.translate_program.specs.Classes.{Placed, span_info, spans_of_class, spans_of}
use Rattle.translate_program.specs.Blocks.{block_of, blocks_of_class, blocks_of}

-- ---- one class more

spans-count : (c : Placed) → length (spans_of_class c) ≡ length c.spans
spans-count c = length-map-range_with_len (span_info c.number c.part c.spans) 0 (length c.spans)

pub blocks-push : (before : ℕ) (classes : List Placed) (c : Placed) (n : ℕ) → n ≡ before + length (spans_of classes)
    → blocks_of before (classes ++ c ∷ []) ≡ blocks_of before classes ++ blocks_of_class n c
blocks-push before [] c n is =
    let none : before ≡ n = omega (arith, is) in
    append-nil (blocks_of_class before c) ∙ ap (λ m. blocks_of_class m c) none
blocks-push before (x ∷ classes) c n is =
    let own = blocks_of_class before x in
    let next = before + length x.spans in
    let count : n ≡ next + length (spans_of classes) = omega (arith, is, length-append (spans_of_class x) (spans_of classes), spans-count x) in
    ap (λ l. own ++ l) (blocks-push next classes c n count) ∙ sym (append_assoc own (blocks_of next classes) (blocks_of_class n c))

-- ---- the blocks of a class

cut-from : (first : ℕ) (weights : List ℕ) (limit : ℕ) (spans : List Span) → Cuts first weights limit spans → All (λ s. first ≤ s.first) spans
cut-from first weights limit [] cuts = All-nil (λ s. first ≤ s.first)
cut-from first weights limit (s ∷ spans) (at, some, fits, bytes, rest) =
    All-cons (λ t. first ≤ t.first) s spans (omega (arith, at))
    (All-weaker (λ t. first + s.words ≤ t.first) (λ t. first ≤ t.first) (λ t behind. omega (arith, behind)) spans
    (cut-from (first + s.words) (drop s.words weights) limit spans rest))

cut-behind : (first : ℕ) (weights : List ℕ) (limit : ℕ) (spans : List Span) → Cuts first weights limit spans → AllPairs IsBehind spans
cut-behind first weights limit [] cuts = λ i j d before within. absurd (omega arith)
cut-behind first weights limit (s ∷ spans) (at, some, fits, bytes, rest) =
    AllPairs-cons IsBehind s spans
    (All-weaker (λ t. first + s.words ≤ t.first) (IsBehind s) (λ t behind. omega (arith, behind, at)) spans
    (cut-from (first + s.words) (drop s.words weights) limit spans rest))
    (cut-behind (first + s.words) (drop s.words weights) limit spans rest)

-- a block stands behind another: its words begin later, and in one span its code stands behind that of the other
abbrev pub Follows : BlockInfo → BlockInfo → Type 0
Follows a b = (a.first < b.first) × (a.span ≡ b.span → a.to ≤ b.from)

blocks-rise : (before method_bytes : ℕ) (c : Placed) → AreSpans c.part method_bytes c.spans → AllPairs Follows (blocks_of_class before c)
blocks-rise before method_bytes c are =
    let pieces = pieces_of_class c.part c.spans in
    let rise = pieces-rise c.part c.spans (cut-behind 0 (weights_of c.part c.part.words) method_bytes c.spans are.cuts) in
    map-pairs Follows (block_of before) pieces
    (λ i j d first within. let pair = rise i j d first within in (pair.0, λ same. pair.1 (omega (arith, same))))

there : {X : Type 0} (xs : List X) (i : ℕ) (x d : X) → slice_get xs i ≡ Some x → (i < length xs) × (slice_index_or xs i d ≡ x)
there [] i x d is = cc
there (y ∷ xs) zero x d is = (omega arith, cc)
there (y ∷ xs) (suc i) x d is = let later = there xs i x d is in (omega (arith, later.0), later.1)

pub block-follows : (before method_bytes : ℕ) (c : Placed) (i j : ℕ) (a b : BlockInfo) → AreSpans c.part method_bytes c.spans → i < j
    → slice_get (blocks_of_class before c) i ≡ Some a → slice_get (blocks_of_class before c) j ≡ Some b → Follows a b
block-follows before method_bytes c i j a b are lower first second =
    let at = there (blocks_of_class before c) i a a first in
    let behind = there (blocks_of_class before c) j b a second in
    subst (λ x. Follows x b) at.1
    (subst (λ y. Follows (slice_index_or (blocks_of_class before c) i a) y) behind.1
    (blocks-rise before method_bytes c are i j a lower behind.0))
