-- The words of a class, and the starts of its spans.
use Rattle.std.proofs.Common.{◌≡◌, ℕ, ◌+◌, ◌-◌, ◌/◌, ◌^◌, ◌<◌, ◌≤◌, length, ◌∙◌, arith}
use Rattle.std.proofs.lemmas.List.FromFn.{length-map-range_with_len}
use Rattle.trampoline_laws.specs.Choosing.{Rise, IsWithin}
use Rattle.trampoline_laws.specs.Classes.{CodeClass, IsClass, address, end_of, span_at, span_words, span_start, span_starts}
use Rattle.trampoline_laws.specs.Found.{FoundSpan}
use Rattle.trampoline_laws.proofs.TrampolineLaws.Choosing.{chosen-begins, counted-rise, counted-chosen}
use Rattle.trampoline_laws.proofs.TrampolineLaws.Spans.{spans-some, LiesIn, joined-at, joined-apart, joined-has}

module _ (c : CodeClass) (is : IsClass c) where
  -- ---- words

  pub end-low : end_of c < 2 ^ 31
  end-low = omega (arith, is.within, is.low)

  pub first-low : address c 0 < 2 ^ 31
  first-low = omega (arith, is.within, is.low)

  pub word-within : (k : ℕ) → k < c.count → IsWithin (address c 0) (end_of c) (address c k)
  word-within k below = (omega (arith, is.aligned), omega arith, omega arith)

  pub word-only : (x : ℕ) → IsWithin (address c 0) (end_of c) x → (k : ℕ) × (k < c.count) × (x ≡ address c k)
  word-only x within = (
    (x - address c 0) / 4,
    omega (arith, within.1, within.2),
    omega (arith, is.aligned, within.0, within.1, within.2),
  )

  -- ---- spans

  pub span-in : (j : ℕ) → j < length c.spans → LiesIn 0 c.count (span_at c j)
  span-in j below = joined-at c.spans 0 c.count j is.joined below

  pub span-end : (j : ℕ) → j < length c.spans → (span_words c j).end ≤ length c.words
  span-end j below = let at = span-in j below in omega (arith, is.within, at.to)

  span-low : (j : ℕ) → j < length c.spans → (span_start c j).first < 2 ^ 31
  span-low j below = let at = span-in j below in omega (arith, is.within, is.low, at.to)

  span-more : (j : ℕ) → j + 1 < length c.spans → (span_start c j).first < (span_start c (j + 1)).first
  span-more j below =
      let at = span-in j (omega arith) in
      let apart = joined-apart c.spans 0 c.count j (j + 1) is.joined (omega arith) below in
      omega (arith, at.some, apart)

  pub starts-rise : Rise (span_starts c)
  starts-rise = counted-rise (span_start c) (length c.spans) span-low span-more 0 (length c.spans) 0 (omega arith) (λ some. omega arith)

  pub starts-some : 1 ≤ length (span_starts c)
  starts-some =
      let some = spans-some c.spans 0 c.count is.joined (omega (arith, is.some)) in
      let long = length-map-range_with_len (span_start c) 0 (length c.spans) in
      omega (arith, some, long)

  pub starts-few : length (span_starts c) ≤ 2048
  starts-few = let long = length-map-range_with_len (span_start c) 0 (length c.spans) in omega (arith, is.few, long)

  pub word-found : (k : ℕ) → k < c.count → FoundSpan c k
  word-found k below =
      let at = joined-has c.spans 0 c.count k is.joined (omega arith) below in
      let from = chosen-begins (address c k) (span_starts c) in
      record {
        number = at.number;
        below = at.below;
        begins = at.begins;
        ends = at.ends;
        chosen_is =
            from.1
            ∙ counted-chosen (span_start c) (length c.spans) span-low span-more (address c k) at.number from.0 0 (length c.spans)
            (omega (arith, is.within, is.low)) (omega arith) (omega arith) at.below (omega (arith, at.begins))
            (λ some. let apart = joined-apart c.spans 0 c.count at.number (at.number + 1) is.joined (omega arith) some in omega (arith, apart, at.ends));
      }
