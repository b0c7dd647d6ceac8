-- The codes of words that are laid down one after the other.
use Rattle.std.proofs.Common.{◌≡◌, ℕ, zero, suc, ◌+◌, ◌-◌, ◌≤◌, Bool, true, false, List, [], ◌∷◌, ◌++◌, map, refl, sym, ap, ◌∙◌, arith, append-nil}
use Rattle.std.specs.Prelude.{filter}
use Rattle.std.specs.List.{flat_map, range_with_len}
use Rattle.std.proofs.lemmas.List.{map-append}
use Rattle.std.proofs.lemmas.List.Concat.{flat_map-append}
use Rattle.std.proofs.lemmas.List.Elements.{filter-append}
use Rattle.emit_steps.specs.declared.step.Step.{Step}
use Rattle.emit_steps.specs.Widths.{size}
use Rattle.emit_spans.specs.declared.span_words.SpanWords.{SpanWords}
use Rattle.emit_spans.specs.Pieces.{words_before, all_words}

-- ---- one word more

range-append : (a m n j : ℕ) → a + m ≡ j → range_with_len a (m + n) ≡ range_with_len a m ++ range_with_len j n
range-append a zero n j is =
    let here : a ≡ j = omega arith in
    let all : 0 + n ≡ n = omega arith in
    ap (range_with_len a) all ∙ ap (λ b. range_with_len b n) here
range-append a (suc m) n j is =
    let more : suc m + n ≡ suc (m + n) = omega arith in
    ap (range_with_len a) more ∙ ap (λ ks. a ∷ ks) (range-append (a + 1) m n j (omega arith))

-- the words up to a later one
pub words-append : (span : SpanWords) (k j : ℕ) → span.first ≤ k → k ≤ j
    → words_before span j ≡ words_before span k ++ range_with_len k (j - k)
words-append span k j first le =
    let parts : j - span.first ≡ (k - span.first) + (j - k) = omega arith in
    ap (range_with_len span.first) parts ∙ range-append span.first (k - span.first) (j - k) k (omega arith)

pub words-more : (span : SpanWords) (k : ℕ) → span.first ≤ k → words_before span (k + 1) ≡ words_before span k ++ k ∷ []
words-more span k first =
    let one : k + 1 - k ≡ 1 = omega arith in
    words-append span k (k + 1) first (omega arith) ∙ ap (λ n. words_before span k ++ range_with_len k n) one

one-kept : (test : ℕ → Bool) (k : ℕ) → test k ≡ true → filter test (k ∷ []) ≡ k ∷ []
one-kept test k is = rw is refl

one-passed : (test : ℕ → Bool) (k : ℕ) → test k ≡ false → filter test (k ∷ []) ≡ []
one-passed test k is = rw is refl

pub kept-more : (test : ℕ → Bool) (span : SpanWords) (k : ℕ) → span.first ≤ k → test k ≡ true
    → filter test (words_before span (k + 1)) ≡ filter test (words_before span k) ++ k ∷ []
kept-more test span k first is =
    ap (filter test) (words-more span k first) ∙ filter-append test (words_before span k) (k ∷ [])
    ∙ ap (λ ks. filter test (words_before span k) ++ ks) (one-kept test k is)

pub kept-same : (test : ℕ → Bool) (span : SpanWords) (k : ℕ) → span.first ≤ k → test k ≡ false
    → filter test (words_before span (k + 1)) ≡ filter test (words_before span k)
kept-same test span k first is =
    ap (filter test) (words-more span k first) ∙ filter-append test (words_before span k) (k ∷ [])
    ∙ ap (λ ks. filter test (words_before span k) ++ ks) (one-passed test k is)
    ∙ append-nil (filter test (words_before span k))

-- ---- what is told of each word

pub pushed : {X : Type 0} (F : ℕ → X) (ks more : List ℕ) (k : ℕ) (x : X) (old new : List X) → more ≡ ks ++ k ∷ [] → x ≡ F k
    → old ≡ map F ks → new ≡ old ++ x ∷ [] → new ≡ map F more
pushed F ks more k x old new words is before after =
    after ∙ (λ i. before i ++ is i ∷ []) ∙ sym (map-append F ks (k ∷ [])) ∙ sym (ap (map F) words)

-- ---- code

pub size-append : (code others : List Step) → size (code ++ others) ≡ size code + size others
size-append [] others = omega arith
size-append (s ∷ code) others = omega (arith, size-append code others)

flat_map-one : (F : ℕ → List Step) (k : ℕ) → flat_map F (k ∷ []) ≡ F k
flat_map-one F k = append-nil (F k)

parts-more : (F : ℕ → List Step) (ks more : List ℕ) (k : ℕ) → more ≡ ks ++ k ∷ [] → flat_map F more ≡ flat_map F ks ++ F k
parts-more F ks more k words = ap (flat_map F) words ∙ flat_map-append F ks (k ∷ [])
    ∙ ap (λ code. flat_map F ks ++ code) (flat_map-one F k)

pub laid-more : (F : ℕ → List Step) (ks more : List ℕ) (k : ℕ) (part old new : List Step) → more ≡ ks ++ k ∷ [] → part ≡ F k
    → old ≡ flat_map F ks → new ≡ old ++ part → new ≡ flat_map F more
laid-more F ks more k part old new words is before after =
    after ∙ (λ i. before i ++ is i) ∙ sym (parts-more F ks more k words)

pub size-more : (F : ℕ → List Step) (ks more : List ℕ) (k : ℕ) → more ≡ ks ++ k ∷ []
    → size (flat_map F more) ≡ size (flat_map F ks) + size (F k)
size-more F ks more k words = ap size (parts-more F ks more k words) ∙ size-append (flat_map F ks) (F k)

-- the code of fewer words has no more bytes
pub size-rises : (F : ℕ → List Step) (test : ℕ → Bool) (span : SpanWords) (k : ℕ) → span.first ≤ k → k ≤ span.end
    → size (flat_map F (filter test (words_before span k))) ≤ size (flat_map F (filter test (all_words span)))
size-rises F test span k first le =
    let front = filter test (words_before span k) in
    let back = filter test (range_with_len k (span.end - k)) in
    let words : filter test (all_words span) ≡ front ++ back = ap (filter test) (words-append span k span.end first le)
    ∙ filter-append test (words_before span k) (range_with_len k (span.end - k)) in
    let bytes : size (flat_map F (filter test (all_words span))) ≡ size (flat_map F front) + size (flat_map F back) = ap
    (λ ks. size (flat_map F ks)) words ∙ ap size (flat_map-append F front back) ∙ size-append (flat_map F front) (flat_map F back) in
    omega (arith, bytes)
