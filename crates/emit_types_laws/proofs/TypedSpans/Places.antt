-- The code of a span as a body of parts, and the offsets between them.
use Rattle.std.proofs.Common.{◌≡◌, ℕ, ◌+◌, ◌-◌, ◌<◌, ◌≤◌, ◌==◌, Bool, true, false, if◌then◌else◌, inl, inr, List, [], ◌∷◌, ◌++◌, All, length, length-append, map, take, refl, sym, ap, subst, ◌∙◌, append_assoc, append-nil, arith}
use Rattle.std.specs.Prelude.{filter, Some, None}
use Rattle.std.specs.List.{flat_map, range_with_len, list_any}
use Rattle.std.proofs.lemmas.Bool.{not-true, eqb-true, or_cases}
use Rattle.std.proofs.lemmas.Option.{none-some, same_Some}
use Rattle.std.proofs.lemmas.List.{map-append, take_at}
use Rattle.std.proofs.lemmas.List.Concat.{flat_map-append}
use Rattle.std.proofs.lemmas.List.Elements.{All-head, All-tail, All-weaker, filter-append, filter_passes}
use Rattle.std.proofs.lemmas.List.Folds.{Any-from_list_any}
use Rattle.std.proofs.lemmas.List.FromFn.{get_or-map-range_with_len}
use Rattle.delay_slots.specs.declared.unit.Unit.{Unit}
use Rattle.jvm_definition.specs.Typing.{TypeFrame}
use Rattle.emit_steps.specs.declared.step.Step.{Step}
use Rattle.emit_steps.specs.Widths.{size}
use Rattle.emit_steps.specs.Returning.{returns}
use Rattle.emit_spans.specs.declared.span_words.SpanWords.{SpanWords}
use Rattle.emit_spans.specs.Pieces.{words_before, all_words, begins}
use Rattle.emit_spans.specs.Neighbours.{address, is_inner}
use Rattle.emit_spans.specs.Parts.{extent, warm_part, cold_part}
use Rattle.emit_spans.specs.Opening.{opening}
use Rattle.emit_spans.specs.Laying.{base, warm_before, cold_before, cold_base, return_offset, entry_at, targets_of, laid_step, switch, span_code}
use Rattle.emit_spans.specs.Standing.{laid_part}
use Rattle.emit_spans.proofs.BodyLemmas.{size-append, words-append}
use Rattle.emit_spans.proofs.SizeLemmas.{size-laid}
use Rattle.emit_spans.proofs.TargetLemmas.{told-length}
use Rattle.emit_types_laws.specs.Bodies.{IsBetween}
use Rattle.emit_types_laws.specs.Knowing.{unknown}
use Rattle.emit_types_laws.specs.Spans.{goals_of, owes_unknown}

-- parts that are laid down are what is laid down of all of them
parts-laid : (laid_as : Step → Step) (part before : ℕ → List Step) (ks : List ℕ) → All (λ k. part k ≡ map laid_as (before k)) ks
    → flat_map part ks ≡ map laid_as (flat_map before ks)
parts-laid laid_as part before [] all = refl
parts-laid laid_as part before (k ∷ ks) all =
    let first : part k ≡ map laid_as (before k) = All-head (λ k. part k ≡ map laid_as (before k)) k ks all in
    let rest = parts-laid laid_as part before ks (All-tail (λ k. part k ≡ map laid_as (before k)) k ks all) in
    ap (λ code. code ++ flat_map part ks) first ∙ ap (λ code. map laid_as (before k) ++ code) rest
    ∙ sym (map-append laid_as (before k) (flat_map before ks))

-- an offset behind the first of the parts
behind-some : (front : List Step) (part : ℕ → List Step) (parts some others : List ℕ) (at : ℕ) → parts ≡ some ++ others
    → at ≡ size front + size (flat_map part some) → IsBetween front part parts at
behind-some front part parts some others at is there =
    let total : length parts ≡ length some + length others = ap length is ∙ length-append some others in
    let taken : take (length some) parts ≡ some = ap (take (length some)) is ∙ take_at some others (length some) refl in
    record {
      before = length some;
      few = omega (arith, total);
      offset = there ∙ ap (λ ks. size front + size (flat_map part ks)) (sym taken);
    }

-- the words that pass a test, those before one first
words-split : (test : ℕ → Bool) (span : SpanWords) (k : ℕ) → span.first ≤ k → k < span.end
    → filter test (all_words span) ≡ filter test (words_before span k) ++ filter test (range_with_len k (span.end - k))
words-split test span k above below =
    ap (filter test) (words-append span k span.end above (omega (arith, below)))
    ∙ filter-append test (words_before span k) (range_with_len k (span.end - k))

module _ (units : List Unit) (leads : ℕ → Bool) (span : SpanWords) where
  abbrev pub L : Step → Step
  L = laid_step (extent span) (targets_of units leads span) (return_offset units leads span)

  abbrev pub part : ℕ → List Step
  part k = laid_part units leads span k

  -- the words with which pieces begin, and the others
  abbrev pub warm_words : List ℕ
  warm_words = filter (begins leads span) (all_words span)

  abbrev pub cold_words : List ℕ
  cold_words = filter (is_inner leads span) (all_words span)

  abbrev pub front : List Step
  front = opening (address span span.first) ++ switch (targets_of units leads span) (return_offset units leads span) ∷ []

  pub warm-is : (k : ℕ) → begins leads span k ≡ true → part k ≡ map L (warm_part units leads span k)
  warm-is k is = ap (λ b. map L (if b then warm_part units leads span k else cold_part units leads span k)) is

  pub cold-is : (k : ℕ) → is_inner leads span k ≡ true → part k ≡ map L (cold_part units leads span k)
  cold-is k is =
      ap (λ b. map L (if b then warm_part units leads span k else cold_part units leads span k)) (not-true (begins leads span k) is)

  warm-laid : (ks : List ℕ)
      → flat_map part (filter (begins leads span) ks) ≡ map L (flat_map (warm_part units leads span) (filter (begins leads span) ks))
  warm-laid ks =
      parts-laid L part (warm_part units leads span) (filter (begins leads span) ks)
      (All-weaker (λ k. begins leads span k ≡ true) (λ k. part k ≡ map L (warm_part units leads span k)) warm-is (filter (begins leads span) ks)
      (filter_passes (begins leads span) ks))

  cold-laid : (ks : List ℕ)
      → flat_map part (filter (is_inner leads span) ks) ≡ map L (flat_map (cold_part units leads span) (filter (is_inner leads span) ks))
  cold-laid ks =
      parts-laid L part (cold_part units leads span) (filter (is_inner leads span) ks)
      (All-weaker (λ k. is_inner leads span k ≡ true) (λ k. part k ≡ map L (cold_part units leads span k)) cold-is
      (filter (is_inner leads span) ks) (filter_passes (is_inner leads span) ks))

  warm-size : (ks : List ℕ)
      → size (flat_map part (filter (begins leads span) ks)) ≡ size (flat_map (warm_part units leads span) (filter (begins leads span) ks))
  warm-size ks =
      ap size (warm-laid ks)
      ∙ size-laid (extent span) (targets_of units leads span) (return_offset units leads span)
      (flat_map (warm_part units leads span) (filter (begins leads span) ks))

  cold-size : (ks : List ℕ)
      → size (flat_map part (filter (is_inner leads span) ks)) ≡ size (flat_map (cold_part units leads span) (filter (is_inner leads span) ks))
  cold-size ks =
      ap size (cold-laid ks)
      ∙ size-laid (extent span) (targets_of units leads span) (return_offset units leads span)
      (flat_map (cold_part units leads span) (filter (is_inner leads span) ks))

  pub code-is : span_code units leads span ≡ front ++ (flat_map part (warm_words ++ cold_words) ++ returns ∷ [])
  code-is =
      let warm = warm_before units leads span span.end in
      let cold = cold_before units leads span span.end in
      let begun = opening (address span span.first) in
      let selects = switch (targets_of units leads span) (return_offset units leads span) in
      let parts : map L (warm ++ cold) ≡ flat_map part (warm_words ++ cold_words) =
      map-append L warm cold
      ∙ ap (λ code. code ++ map L cold) (sym (warm-laid (all_words span)))
      ∙ ap (λ code. flat_map part warm_words ++ code) (sym (cold-laid (all_words span)))
      ∙ sym (flat_map-append part warm_words cold_words) in
      ap (λ code. begun ++ selects ∷ (code ++ returns ∷ [])) parts
      ∙ sym (append_assoc begun (selects ∷ []) (flat_map part (warm_words ++ cold_words) ++ returns ∷ []))

  -- ---- offsets

  front-size : size front ≡ base span
  front-size =
      let targets = targets_of units leads span in
      let sizes = size-append (opening (address span span.first)) (switch targets (return_offset units leads span) ∷ []) in
      let words : length targets ≡ span.end - span.first = told-length (entry_at units leads span) span targets refl in
      omega (arith, sizes, words)

  both-size : (first second : List ℕ) → size (flat_map part (first ++ second)) ≡ size (flat_map part first) + size (flat_map part second)
  both-size first second = ap size (flat_map-append part first second) ∙ size-append (flat_map part first) (flat_map part second)

  return-between : IsBetween front part (warm_words ++ cold_words) (return_offset units leads span)
  return-between =
      let all = warm_words ++ cold_words in
      let begun = front-size in
      let both = both-size warm_words cold_words in
      let warm = warm-size (all_words span) in
      let cold = cold-size (all_words span) in
      behind-some front part all all [] (return_offset units leads span) (sym (append-nil all)) (omega (arith, begun, both, warm, cold))

  warm-between : (k : ℕ) → span.first ≤ k → k < span.end → begins leads span k ≡ true
      → IsBetween front part (warm_words ++ cold_words) (entry_at units leads span k)
  warm-between k above below is =
      let some = filter (begins leads span) (words_before span k) in
      let later = filter (begins leads span) (range_with_len k (span.end - k)) in
      let words : warm_words ++ cold_words ≡ some ++ (later ++ cold_words) =
      ap (λ ks. ks ++ cold_words) (words-split (begins leads span) span k above below) ∙ append_assoc some later cold_words in
      let entry : entry_at units leads span k ≡ base span + size (warm_before units leads span k) =
      ap (λ b. if b then base span + size (warm_before units leads span k)
      else cold_base units leads span + size (cold_before units leads span k)) is in
      let begun = front-size in
      let warm = warm-size (words_before span k) in
      behind-some front part (warm_words ++ cold_words) some (later ++ cold_words) (entry_at units leads span k) words
      (omega (arith, entry, begun, warm))

  cold-between : (k : ℕ) → span.first ≤ k → k < span.end → begins leads span k ≡ false
      → IsBetween front part (warm_words ++ cold_words) (entry_at units leads span k)
  cold-between k above below is =
      let some = filter (is_inner leads span) (words_before span k) in
      let later = filter (is_inner leads span) (range_with_len k (span.end - k)) in
      let words : warm_words ++ cold_words ≡ (warm_words ++ some) ++ later =
      ap (λ ks. warm_words ++ ks) (words-split (is_inner leads span) span k above below) ∙ sym (append_assoc warm_words some later) in
      let entry : entry_at units leads span k ≡ cold_base units leads span + size (cold_before units leads span k) =
      ap (λ b. if b then base span + size (warm_before units leads span k)
      else cold_base units leads span + size (cold_before units leads span k)) is in
      let begun = front-size in
      let both = both-size warm_words some in
      let warm = warm-size (all_words span) in
      let cold = cold-size (words_before span k) in
      behind-some front part (warm_words ++ cold_words) (warm_words ++ some) later (entry_at units leads span k) words
      (omega (arith, entry, begun, both, warm, cold))

  word-between : (k : ℕ) → span.first ≤ k → k < span.end → IsBetween front part (warm_words ++ cold_words) (entry_at units leads span k)
  word-between k above below = by_test (begins leads span k) refl
    where
      by_test : (b : Bool) → begins leads span k ≡ b → IsBetween front part (warm_words ++ cold_words) (entry_at units leads span k)
      by_test true is = warm-between k above below is
      by_test false is = cold-between k above below is

  goal-between : (at : ℕ) → list_any (λ goal. goal == at) (goals_of units leads span) ≡ true
      → IsBetween front part (warm_words ++ cold_words) at
  goal-between at is =
      let targets = targets_of units leads span in
      elim (or_cases (return_offset units leads span == at) (list_any (λ goal. goal == at) targets) is) [
        | inl same ↦ subst (IsBetween front part (warm_words ++ cold_words)) (eqb-true (return_offset units leads span) at same) return-between
        | inr there ↦
            let found = Any-from_list_any (λ goal. goal == at) targets there in
            let k = span.first + found.0 in
            let words : length targets ≡ span.end - span.first = told-length (entry_at units leads span) span targets refl in
            let less = found.2 in
            let few : found.0 < span.end - span.first = omega (arith, words, less) in
            let entry : entry_at units leads span k ≡ found.1 =
            sym (get_or-map-range_with_len (entry_at units leads span) span.first (span.end - span.first) found.0 k found.1 few refl) ∙ found.3 in
            let same : found.1 ≡ at = eqb-true found.1 at found.4 in
            subst (IsBetween front part (warm_words ++ cold_words)) (entry ∙ same) (word-between k (omega arith) (omega (arith, few)))
      ]

  -- what is owed anywhere is owed between parts
  pub owed-between : (at : ℕ) (g : TypeFrame) → owes_unknown (goals_of units leads span) at ≡ Some g
      → (g ≡ unknown) × IsBetween front part (warm_words ++ cold_words) at
  owed-between at g h = by_test (list_any (λ goal. goal == at) (goals_of units leads span)) (goal-between at) h
    where
      by_test : (b : Bool) → (b ≡ true → IsBetween front part (warm_words ++ cold_words) at) → (if b then Some unknown else None) ≡ Some g
          → (g ≡ unknown) × IsBetween front part (warm_words ++ cold_words) at
      by_test true there h = (sym (same_Some unknown g h), there refl)
      by_test false there h = absurd (none-some g h)
