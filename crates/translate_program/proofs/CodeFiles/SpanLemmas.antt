-- Spans that cut words are spans of these.
use Rattle.std.proofs.Common.{◌≡◌, ℕ, ◌+◌, ◌≤◌, List, [], ◌∷◌, length, drop, All, ap, arith, subst}
use Rattle.std.proofs.lemmas.List.Elements.{All-nil, All-cons}
use Rattle.std.proofs.lemmas.List.{length-drop}
use Rattle.method_splitter.specs.Cuts.{Cuts}
use Rattle.method_splitter.specs.declared.span.Span.{Span}
use Rattle.translate_classes.specs.Parts.{IsSpan}

pub cut-within : (first : ℕ) (weights : List ℕ) (limit : ℕ) (spans : List Span) → Cuts first weights limit spans
    → All (IsSpan (first + length weights)) spans
cut-within first weights limit [] cuts = All-nil (IsSpan (first + length weights))
cut-within first weights limit (s ∷ spans) (at, some, fits, bytes, rest) =
    let e : (first + s.words) + length (drop s.words weights) ≡ first + length weights = omega (arith, length-drop s.words weights, fits) in
    let others = subst (λ n. All (IsSpan n) spans) e (cut-within (first + s.words) (drop s.words weights) limit spans rest) in
    let own : IsSpan (first + length weights) s = record { some = omega (arith, some); within = omega (arith, at, fits) } in
    All-cons (IsSpan (first + length weights)) s spans own others

pub cut-some : (first : ℕ) (weights : List ℕ) (limit : ℕ) (spans : List Span) → Cuts first weights limit spans → 1 ≤ length weights → 1 ≤ length spans
cut-some first weights limit [] cuts some = absurd (omega (arith, ap length cuts, some))
cut-some first weights limit (s ∷ spans) cuts some = omega arith
