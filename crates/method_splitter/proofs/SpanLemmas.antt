-- Spans that are filled from the front are as few as there can be.
use Rattle.std.proofs.Common.{◌≡◌, ℕ, zero, suc, ◌+◌, ◌-◌, ◌<◌, ◌≤◌, List, [], ◌∷◌, ◌++◌, length, take, drop, get_or, refl, sym, ap, ◌∙◌, append-nil, arith, inl, inr}
use Rattle.std.proofs.lemmas.Bool.{cases_lt}
use Rattle.std.proofs.Math.Seq.{take-add}
use Rattle.std.proofs.Math.ListN.{drop_of_length-le}
use Rattle.std.specs.Prelude.{sum_by, All}
use Rattle.std.proofs.lemmas.List.{drop-drop, length-drop}
use Rattle.std.proofs.lemmas.List.Sums.{sum_by-append, sum_by_more}
use Rattle.method_splitter.specs.declared.span.Span.{Span}
use Rattle.method_splitter.specs.Cuts.{Cuts, Fills, span_weight}

-- no span of no words
pub empty_has_none : (first limit : ℕ) (spans : List Span) → Cuts first [] limit spans → spans ≡ []
empty_has_none first limit [] h = refl
empty_has_none first limit (s ∷ spans) h = absurd (omega (h.1, h.2, arith))

-- words among others weigh no more than all of them
within_more : (weights : List ℕ) (k n r : ℕ) → span_weight (take n (drop k weights)) ≤ span_weight (take (k + n + r) weights)
unfolding span_weight
within_more weights k n r =
    let outer : sum_by (λ w. 4 + w) (take (k + n + r) weights) ≡ sum_by (λ w. 4 + w) (take (k + n) weights) + sum_by (λ w. 4 + w) (take r (drop (k + n) weights)) = ap (sum_by (λ w. 4 + w)) (take-add (k + n) r weights) ∙ sum_by-append (λ w. 4 + w) (take (k + n) weights) (take r (drop (k + n) weights)) in
    let inner : sum_by (λ w. 4 + w) (take (k + n) weights) ≡ sum_by (λ w. 4 + w) (take k weights) + sum_by (λ w. 4 + w) (take n (drop k weights)) = ap (sum_by (λ w. 4 + w)) (take-add k n weights) ∙ sum_by-append (λ w. 4 + w) (take k weights) (take n (drop k weights)) in
    omega (outer, inner, arith)

pub within : (weights : List ℕ) (k n m : ℕ) → k + n ≤ m → span_weight (take n (drop k weights)) ≤ span_weight (take m weights)
within weights k n m h =
    let e : m ≡ k + n + (m - (k + n)) = omega (h, arith) in
    rw e (within_more weights k n (m - (k + n)))

-- What is left after a span that is filled begins no earlier than what is left after any span that begins no later.
ahead : (behind : List ℕ) (k limit : ℕ) (s o : Span) → (s.words < length (drop k behind) → limit < span_weight (take (s.words + 1) (drop k behind))) → s.words < length (drop k behind) → span_weight (take o.words behind) ≤ limit → o.words ≤ k + s.words
ahead behind k limit s o fills more fits = elim (cases_lt (k + s.words) o.words) [
  | inr h ↦ h
  | inl h ↦ absurd (omega (fills more, fits, within behind k (s.words + 1) o.words (omega (h, arith)), arith))
]

rest_of : (behind : List ℕ) (k n m : ℕ) → m ≤ k + n → drop n (drop k behind) ≡ drop (k + n - m) (drop m behind)
rest_of behind k n m h =
    let e : m + (k + n - m) ≡ k + n = omega (h, arith) in
    drop-drop n k behind ∙ ap (λ j. drop j behind) (sym e) ∙ sym (drop-drop (k + n - m) m behind)

-- Spans that are filled from the front are as few as any spans that begin no later.
pub stays_ahead : (limit : ℕ) (spans others : List Span) (first start k : ℕ) (behind : List ℕ) → Cuts first (drop k behind) limit spans → Fills (drop k behind) limit spans → Cuts start behind limit others → length spans ≤ length others
stays_ahead limit [] others first start k behind c f d = omega arith
stays_ahead limit (s ∷ spans) [] first start k behind c f d =
    let none : length (drop k behind) ≡ 0 = length-drop k behind ∙ omega (ap length d, arith) in
    absurd (omega (c.1, c.2, none, arith))
stays_ahead limit (s ∷ spans) (o ∷ others) first start k behind c f d = elim (cases_lt s.words (length (drop k behind))) [
  | inr last ↦
      let ends : drop s.words (drop k behind) ≡ [] = drop_of_length-le (drop k behind) last in
      let none : spans ≡ [] = empty_has_none (first + s.words) limit spans (rw (sym ends) c.4) in
      omega (ap length none, arith)
  | inl more ↦
      let reach = ahead behind k limit s o f.0 more d.3 in
      let e = rest_of behind k s.words o.words reach in
      let fewer = stays_ahead limit spans others (first + s.words) (start + o.words) (k + s.words - o.words) (drop o.words behind) (rw (sym e) c.4) (rw (sym e) f.1) d.4 in
      omega (fewer, arith)
]

pub least : (weights : List ℕ) (limit : ℕ) (spans others : List Span) → Cuts 0 weights limit spans → Fills weights limit spans → Cuts 0 weights limit others → length spans ≤ length others
least weights limit spans others c f d = stays_ahead limit spans others 0 0 0 weights c f d

-- How far the division has come: whatever follows, it follows the spans so far.
pub record Comes (weights : List ℕ) (limit : ℕ) (spans : List Span) (first : ℕ) : Type 0 where
  pub within : first ≤ length weights
  pub cuts : (later : List Span) → Cuts first (drop first weights) limit later → Cuts 0 weights limit (spans ++ later)
  pub fills : (later : List Span) → Fills (drop first weights) limit later → Fills weights limit (spans ++ later)

pub Comes-end : (weights : List ℕ) (limit : ℕ) (spans : List Span) (first : ℕ) → Comes weights limit spans first → length weights ≤ first → Cuts 0 weights limit spans × Fills weights limit spans
Comes-end weights limit spans first comes all =
    let ends : drop first weights ≡ [] = drop_of_length-le weights all in
    (rw (sym (append-nil spans)) (comes.cuts [] ends), rw (sym (append-nil spans)) (comes.fills [] tt))

pub none_weighs : 96 ≡ span_weight []
unfolding span_weight
none_weighs = refl

-- one word more
pub one_more : (weights : List ℕ) (i d : ℕ) → i < length weights → span_weight (take (i + 1) weights) ≡ span_weight (take i weights) + 4 + get_or weights i d
unfolding span_weight
one_more weights i d h = omega (sum_by_more (λ w. 4 + w) weights i d h, arith)

-- where each word fits alone, a span of no words does
pub some_fits : (weights : List ℕ) (limit : ℕ) → 0 < length weights → All (λ w. 100 + w ≤ limit) weights → 96 ≤ limit
some_fits [] limit some each = absurd (omega (some, arith))
some_fits (w ∷ weights) limit some each = omega (each 0 0 some, arith)

-- a word that does not fit is not the first
pub not_first : (weights : List ℕ) (limit i bytes w : ℕ) → All (λ w. 100 + w ≤ limit) weights → i < length weights → bytes ≡ span_weight (take i weights) → w ≡ get_or weights i 0 → limit < bytes + 4 + w → 0 < i
unfolding span_weight
not_first weights limit zero bytes w each more e f over = absurd (omega (each 0 0 more, e, f, over, arith))
not_first weights limit (suc i) bytes w each more e f over = omega arith
