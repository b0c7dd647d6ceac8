-- The spans of a class are few, and have its words.
use Rattle.std.proofs.Common.{◌≡◌, ℕ, ◌+◌, ◌*◌, ◌<◌, ◌≤◌, List, [], ◌∷◌, length, take, drop, All, ap, arith, length-drop, length-take-le}
use Rattle.std.specs.Prelude.{sum_by}
use Rattle.std.proofs.lemmas.List.Elements.{All-take, All-drop}
use Rattle.std.proofs.lemmas.List.Sums.{sum_by-cons, sum_by-le}
use Rattle.method_splitter.specs.Cuts.{span_weight, Cuts, Fills}
use Rattle.method_splitter.specs.declared.span.Span.{Span}

span-small : (weights : List ℕ) → All (λ (w : ℕ). w ≤ 540) weights → span_weight weights ≤ 96 + 544 * length weights
unfolding span_weight
span-small weights small =
    let sum = sum_by-le (λ (w : ℕ). 4 + w) 544 weights (λ k d lt. let less = small k d lt in omega (arith, less)) in
    omega (arith, sum)

-- each span but the last has seven words or more
pub cut-few : (first : ℕ) (weights : List ℕ) (limit : ℕ) (spans : List Span) → 4096 ≤ limit → All (λ (w : ℕ). w ≤ 540) weights
    → Cuts first weights limit spans → Fills weights limit spans → 7 * length spans ≤ length weights + 7
cut-few first weights limit [] large small cuts fills = omega arith
cut-few first weights limit (s ∷ []) large small cuts fills = omega arith
cut-few first weights limit (s ∷ t ∷ spans) large small cuts fills =
    let rest = cuts.4 in
    let next = cut-few (first + s.words) (drop s.words weights) limit (t ∷ spans) large (All-drop (λ (w : ℕ). w ≤ 540) s.words weights small) rest fills.1 in
    let left = length-drop s.words weights in
    let more : s.words < length weights = omega (arith, left, rest.1, rest.2) in
    let over = fills.0 more in
    let bound = span-small (take (s.words + 1) weights) (All-take (λ (w : ℕ). w ≤ 540) (s.words + 1) weights small) in
    let taken = length-take-le (s.words + 1) weights in
    omega (arith, left, next, over, bound, taken, large, cuts.2)

pub cut-words : (first : ℕ) (weights : List ℕ) (limit : ℕ) (spans : List Span) → Cuts first weights limit spans
    → sum_by (λ (s : Span). s.words) spans ≡ length weights
cut-words first weights limit [] cuts = omega (arith, ap length cuts)
cut-words first weights limit (s ∷ spans) cuts =
    omega (
      arith,
      cuts.2,
      sum_by-cons (λ (x : Span). x.words) s spans,
      length-drop s.words weights,
      cut-words (first + s.words) (drop s.words weights) limit spans cuts.4,
    )
