-- Where the parts stand in the code of the method.
use Rattle.std.proofs.Common.{◌≡◌, ℕ, suc, ◌+◌, ◌*◌, ◌-◌, ◌<◌, ◌≤◌, Bool, true, false, not, if◌then◌else◌, List, [], ◌∷◌, ◌++◌, length, map, refl, sym, ap, ◌∙◌, arith, append_assoc}
use Rattle.std.specs.Prelude.{filter}
use Rattle.std.specs.List.{flat_map, range_with_len}
use Rattle.std.proofs.lemmas.List.{map-append}
use Rattle.std.proofs.lemmas.List.Concat.{flat_map-append}
use Rattle.std.proofs.lemmas.List.Elements.{filter-append}
use Rattle.delay_slots.specs.declared.unit.Unit.{Unit}
use Rattle.emit_steps.specs.declared.step.Step.{Step}
use Rattle.emit_steps.specs.Widths.{size}
use Rattle.word_emitter.specs.declared.extent.Extent.{Extent}
use Rattle.emit_steps.specs.Returning.{returns}
use Rattle.emit_spans.specs.declared.span_words.SpanWords.{SpanWords}
use Rattle.emit_spans.specs.Pieces.{words_before, all_words, begins}
use Rattle.emit_spans.specs.Neighbours.{is_inner}
use Rattle.emit_spans.specs.Parts.{extent, warm_part, cold_part}
use Rattle.emit_spans.specs.Opening.{opening}
use Rattle.emit_spans.specs.Laying.{base, warm_before, cold_before, cold_base, return_offset, entry_at, targets_of, laid_step, switch, laid_out, span_code}
use Rattle.emit_spans.specs.Standing.{StandsAt, laid_part}
use Rattle.emit_spans.proofs.BodyLemmas.{size-append, words-append}
use Rattle.emit_spans.proofs.SizeLemmas.{size-laid}
use Rattle.emit_spans.proofs.TargetLemmas.{told-length}

-- ---- parts

-- the code of a word that passes the test stands behind that of the words before
split : (F : ℕ → List Step) (test : ℕ → Bool) (span : SpanWords) (k : ℕ) → span.first ≤ k → k < span.end → test k ≡ true
    → flat_map F (filter test (all_words span))
    ≡ flat_map F (filter test (words_before span k)) ++ (F k ++ flat_map F (filter test (range_with_len (k + 1) (span.end - (k + 1)))))
split F test span k first last is =
    let more : span.end - k ≡ suc (span.end - (k + 1)) = omega arith in
    let front = filter test (words_before span k) in
    let back = filter test (range_with_len (k + 1) (span.end - (k + 1))) in
    let kept : filter test (range_with_len k (span.end - k)) ≡ k ∷ back = rw more (rw is refl) in
    let words : filter test (all_words span) ≡ front ++ k ∷ back = ap (filter test) (words-append span k span.end first (omega arith))
    ∙ filter-append test (words_before span k) (range_with_len k (span.end - k)) ∙ ap (λ ks. front ++ ks) kept in
    ap (flat_map F) words ∙ flat_map-append F front (k ∷ back)

-- a part of what is laid out, behind others
out-split : (span : Extent) (targets : List ℕ) (otherwise : ℕ) (parts front part back : List Step) → parts ≡ front ++ (part ++ back)
    → laid_out span targets otherwise parts
    ≡ (opening span.first ++ switch targets otherwise ∷ map (laid_step span targets otherwise) front)
    ++ (map (laid_step span targets otherwise) part ++ (map (laid_step span targets otherwise) back ++ returns ∷ []))
out-split span targets otherwise parts front part back is =
    let L = laid_step span targets otherwise in
    let begun = opening span.first in
    let laid : map L parts ≡ map L front ++ (map L part ++ map L back) = ap (map L) is ∙ map-append L front (part ++ back)
    ∙ ap (λ l. map L front ++ l) (map-append L part back) in
    let behind : map L parts ++ returns ∷ [] ≡ map L front ++ (map L part ++ (map L back ++ returns ∷ [])) = ap (λ l. l ++ returns ∷ [])
    laid ∙ append_assoc (map L front) (map L part ++ map L back) (returns ∷ []) ∙ ap (λ l. map L front ++ l)
    (append_assoc (map L part) (map L back) (returns ∷ [])) in
    ap (λ l. begun ++ switch targets otherwise ∷ l) behind
    ∙ sym (append_assoc begun (switch targets otherwise ∷ map L front) (map L part ++ (map L back ++ returns ∷ [])))

front-size : (span : Extent) (targets : List ℕ) (otherwise : ℕ) (front : List Step)
    → size (opening span.first ++ switch targets otherwise ∷ map (laid_step span targets otherwise) front) ≡ size (opening span.first) +
    (13 + 4 * length targets + size front)
front-size span targets otherwise front =
    size-append (opening span.first) (switch targets otherwise ∷ map (laid_step span targets otherwise) front)
    ∙ (λ i. size (opening span.first) + (13 + 4 * length targets + size-laid span targets otherwise front i))

module _ (units : List Unit) (leads : ℕ → Bool) (span : SpanWords) where
  part-stands : (part front back : List Step) (at : ℕ)
      → warm_before units leads span span.end ++ cold_before units leads span span.end ≡ front ++ (part ++ back) → at ≡ base span + size
      front
      → StandsAt (span_code units leads span) (map (laid_step (extent span) (targets_of units leads span)
      (return_offset units leads span)) part) at
  part-stands part front back at is here =
      let targets = targets_of units leads span in
      let otherwise = return_offset units leads span in
      let L = laid_step (extent span) targets otherwise in
      let words : length targets ≡ span.end - span.first = told-length (entry_at units leads span) span targets refl in
      record {
        front = opening (extent span).first ++ switch targets otherwise ∷ map L front;
        behind = map L back ++ returns ∷ [];
        is = out-split (extent span) targets otherwise (warm_before units leads span span.end ++ cold_before units leads span span.end)
            front part back is;
        offset = omega (arith, front-size (extent span) targets otherwise front, words, here);
      }

  warm-stands : (k : ℕ) → span.first ≤ k → k < span.end → begins leads span k ≡ true
      → StandsAt (span_code units leads span) (map (laid_step (extent span) (targets_of units leads span)
      (return_offset units leads span)) (warm_part units leads span k)) (entry_at units leads span k)
  warm-stands k first last is =
      let warm = warm_before units leads span k in
      let part = warm_part units leads span k in
      let later = flat_map (warm_part units leads span) (filter (begins leads span) (range_with_len (k + 1) (span.end - (k + 1)))) in
      let cold = cold_before units leads span span.end in
      let parts : warm_before units leads span span.end ++ cold ≡ warm ++ (part ++ (later ++ cold)) = ap (λ l. l ++ cold)
      (split (warm_part units leads span) (begins leads span) span k first last is) ∙ append_assoc warm (part ++ later) cold ∙ ap
      (λ l. warm ++ l) (append_assoc part later cold) in
      part-stands part warm (later ++ cold) (entry_at units leads span k) parts
      (ap (λ b. if b then base span + size warm else cold_base units leads span + size (cold_before units leads span k)) is)

  cold-stands : (k : ℕ) → span.first ≤ k → k < span.end → begins leads span k ≡ false
      → StandsAt (span_code units leads span) (map (laid_step (extent span) (targets_of units leads span)
      (return_offset units leads span)) (cold_part units leads span k)) (entry_at units leads span k)
  cold-stands k first last is =
      let warm = warm_before units leads span span.end in
      let cold = cold_before units leads span k in
      let part = cold_part units leads span k in
      let later = flat_map (cold_part units leads span) (filter (is_inner leads span) (range_with_len (k + 1) (span.end - (k + 1)))) in
      let parts : warm ++ cold_before units leads span span.end ≡ (warm ++ cold) ++ (part ++ later) = ap (λ l. warm ++ l)
      (split (cold_part units leads span) (is_inner leads span) span k first last (ap not is)) ∙ sym
      (append_assoc warm cold (part ++ later)) in
      let entry : entry_at units leads span k ≡ cold_base units leads span + size cold = ap
      (λ b. if b then base span + size (warm_before units leads span k) else cold_base units leads span + size cold) is in
      part-stands part (warm ++ cold) later (entry_at units leads span k) parts (omega (arith, entry, size-append warm cold))

  pub word-stands : (k : ℕ) → span.first ≤ k → k < span.end
      → StandsAt (span_code units leads span) (laid_part units leads span k) (entry_at units leads span k)
  word-stands k first last = by_test (begins leads span k) refl
    where
      by_test : (b : Bool) → begins leads span k ≡ b
          → StandsAt (span_code units leads span) (map (laid_step (extent span) (targets_of units leads span)
          (return_offset units leads span)) (if b then warm_part units leads span k else cold_part units leads span k))
          (entry_at units leads span k)
      by_test true is = warm-stands k first last is
      by_test false is = cold-stands k first last is
