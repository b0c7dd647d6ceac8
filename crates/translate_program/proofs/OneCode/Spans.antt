-- Words have one list of spans that are filled from the front.
use Rattle.std.proofs.Common.{◌≡◌, ℕ, ◌+◌, ◌<◌, ◌≤◌, List, [], ◌∷◌, length, take, drop, refl, sym, ap, ◌∙◌, subst, arith, inl, inr}
use Rattle.std.proofs.lemmas.Bool.{cases_lt}
use Rattle.method_splitter.specs.declared.span.Span.{Span}
use Rattle.method_splitter.specs.Cuts.{Cuts, Fills, span_weight}
use Rattle.method_splitter.proofs.SpanLemmas.{within}

-- no span is longer than one that is filled
longest : (weights : List ℕ) (limit : ℕ) (s o : Span) → (s.words < length weights → limit < span_weight (take (s.words + 1) weights))
    → o.words ≤ length weights → span_weight (take o.words weights) ≤ limit → o.words ≤ s.words
longest weights limit s o fills inside fits = elim (cases_lt s.words o.words) [
  | inr h ↦ h
  | inl h ↦ absurd (omega (fills (omega (h, inside, arith)), fits, within weights 0 (s.words + 1) o.words (omega (h, arith)), arith))
]

abbrev span : ℕ → ℕ → Span
span first words = record { first = first; words = words }

span_same : (s o : Span) → s.first ≡ o.first → s.words ≡ o.words → s ≡ o
span_same s o first words = ap (λ n. span n s.words) first ∙ ap (span o.first) words

pub spans_one : (first : ℕ) (weights : List ℕ) (limit : ℕ) (a b : List Span) → Cuts first weights limit a → Fills weights limit a
    → Cuts first weights limit b → Fills weights limit b → a ≡ b
spans_one first weights limit [] [] cuts fills cuts' fills' = refl
spans_one first weights limit [] (o ∷ b) cuts fills cuts' fills' = absurd (omega (ap length cuts, cuts'.1, cuts'.2, arith))
spans_one first weights limit (s ∷ a) [] cuts fills cuts' fills' = absurd (omega (ap length cuts', cuts.1, cuts.2, arith))
spans_one first weights limit (s ∷ a) (o ∷ b) cuts fills cuts' fills' =
    let words : s.words ≡ o.words =
    omega (longest weights limit s o fills.0 cuts'.2 cuts'.3, longest weights limit o s fills'.0 cuts.2 cuts.3, arith) in
    let own = span_same s o (cuts.0 ∙ sym cuts'.0) words in
    let more = subst (λ n. Cuts (first + n) (drop n weights) limit b) (sym words) cuts'.4 in
    let full = subst (λ n. Fills (drop n weights) limit b) (sym words) fills'.1 in
    ap (λ x. x ∷ a) own ∙ ap (λ l. o ∷ l) (spans_one (first + s.words) (drop s.words weights) limit a b cuts.4 fills.1 more full)
