-- Spans into which words are divided by their weights.
use Rattle.std.proofs.Common.{◌≡◌, ℕ, zero, suc, ◌+◌, ◌-◌, ◌≤◌, Bool, List, [], ◌∷◌, map, take, drop, All, refl, ap, subst, sym, ◌∙◌, arith}
use Rattle.std.specs.List.{range_with_len}
use Rattle.std.proofs.lemmas.List.Elements.{All-cons}
use Rattle.std.proofs.lemmas.List.FromFn.{length-map-range_with_len, take-map-range_with_len}
use Rattle.delay_slots.specs.declared.unit.Unit.{Unit}
use Rattle.block_builder.specs.Blocks.{unit_at}
use Rattle.emit_steps.specs.Widths.{size}
use Rattle.method_splitter.specs.Cuts.{Cuts, span_weight}
use Rattle.method_splitter.specs.declared.span.Span.{Span}
use Rattle.emit_spans.specs.Pieces.{all_words, span_of}
use Rattle.emit_spans.specs.Laying.{span_code}
use Rattle.emit_limits.specs.Weights.{weight_of}
use Rattle.emit_limits.proofs.SpanSizes.{span-fits}

drop-range : {X : Type 0} (f : ℕ → X) (a m n : ℕ) → n ≤ m → drop n (map f (range_with_len a m)) ≡ map f (range_with_len (a + n) (m - n))
drop-range f a m zero few = λ i. map f (range_with_len (here i) (all i))
  where
    here : a ≡ a + 0
    here = omega arith

    all : m ≡ m - 0
    all = omega arith
drop-range f a zero (suc n) few = absurd (omega arith)
drop-range f a (suc m) (suc n) few =
    let here : a + 1 + n ≡ a + suc n = omega arith in
    let all : m - n ≡ suc m - suc n = omega arith in
    drop-range f (a + 1) m n (omega arith) ∙ (λ i. map f (range_with_len (here i) (all i)))

module _ (metered : Bool) (units : List Unit) (leads : ℕ → Bool) (start first limit : ℕ) where
  abbrev pub weight_at : ℕ → ℕ
  weight_at k = weight_of metered (unit_at units (first + k))

  abbrev pub IsWithin : Span → Type 0
  IsWithin s = size (span_code units leads (span_of metered start (first + s.first) s.words)) ≤ limit

  -- words of the part as words of the range
  moved : (a m b : ℕ) → first + a ≡ b → map weight_at (range_with_len a m) ≡ map (λ k. weight_of metered (unit_at units k)) (range_with_len b m)
  moved a zero b is = refl
  moved a (suc m) b is = λ i. weight_of metered (unit_at units (is i)) ∷ moved (a + 1) m (b + 1) (omega arith) i

  span-within : (s : Span) → span_weight (map weight_at (range_with_len s.first s.words)) ≤ limit → IsWithin s
  span-within s fits =
      let span = span_of metered start (first + s.first) s.words in
      let words : first + s.first + s.words - (first + s.first) ≡ s.words = omega arith in
      let weights : map (λ k. weight_of metered (unit_at units k)) (all_words span) ≡ map weight_at (range_with_len s.first s.words) =
      ap (λ n. map (λ k. weight_of metered (unit_at units k)) (range_with_len (first + s.first) n)) words
      ∙ sym (moved s.first s.words (first + s.first) refl) in
      omega (arith, span-fits units leads span, ap span_weight weights, fits)

  pub cut-within : (spans : List Span) (k m : ℕ) → Cuts k (map weight_at (range_with_len k m)) limit spans → All IsWithin spans
  cut-within [] k m cuts = λ i d below. absurd (omega arith)
  cut-within (s ∷ spans) k m cuts =
      let few : s.words ≤ m = omega (arith, cuts.2, length-map-range_with_len weight_at k m) in
      let own : take s.words (map weight_at (range_with_len k m)) ≡ map weight_at (range_with_len s.first s.words) =
      take-map-range_with_len weight_at k m s.words few ∙ ap (λ a. map weight_at (range_with_len a s.words)) (sym cuts.0) in
      let one = span-within s (subst (λ ws. span_weight ws ≤ limit) own cuts.3) in
      let rest = subst (λ ws. Cuts (k + s.words) ws limit spans) (drop-range weight_at k m s.words few) cuts.4 in
      All-cons IsWithin s spans one (cut-within spans (k + s.words) (m - s.words) rest)
