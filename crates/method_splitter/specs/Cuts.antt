-- Spans of words that follow one another, each within a limit of bytes of code.
use Rattle.std.specs.Prelude.{◌≡◌, ℕ, ◌+◌, ◌<◌, ◌≤◌, List, [], ◌∷◌, length, take, drop, sum_by, ⊤}
use Rattle.method_splitter.specs.declared.span.Span.{Span}

-- the bytes of a span: 96, and for each word 4 and its weight
unfoldable pub span_weight : List ℕ → ℕ
span_weight weights = 96 + sum_by (λ w. 4 + w) weights

-- Spans of the words of these weights, the first of which is word `first`: they follow one another, none is empty, they cover all words,
-- and each is within the limit.
abbrev pub Cuts : ℕ → List ℕ → ℕ → List Span → Type 0
Cuts first weights limit [] = weights ≡ []
Cuts first weights limit (s ∷ spans) =
    (s.first ≡ first) × (0 < s.words) × (s.words ≤ length weights)
    × (span_weight (take s.words weights) ≤ limit)
    × Cuts (first + s.words) (drop s.words weights) limit spans

-- each span that words follow would be above the limit with the next one
abbrev pub Fills : List ℕ → ℕ → List Span → Type 0
Fills weights limit [] = ⊤
Fills weights limit (s ∷ spans) =
    (s.words < length weights → limit < span_weight (take (s.words + 1) weights))
    × Fills (drop s.words weights) limit spans
