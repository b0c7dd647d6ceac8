-- No piece begins with a word in the middle of another one.
use Rattle.std.proofs.Common.{◌≡◌, ℕ, ◌+◌, ◌-◌, ◌<◌, ◌≤◌, ◌==◌, ◌||◌, nat_le, Bool, true, false, not, if◌then◌else◌, min, List, length, inl, inr, refl, ap, subst, sym, ◌∙◌, arith}
use Rattle.std.proofs.lemmas.Bool.{and_from, and_right, cases_Bool, cases_eq, eqb-false, le-leb, ne_eqb, or_parts, true≢false}
use Rattle.delay_slots.specs.declared.unit.Unit.{Unit as Word}
use Rattle.block_builder.specs.declared.block.Block.{Block}
use Rattle.block_builder.specs.Blocks.{IsPiece, end_of, ends, unit_at}
use Rattle.block_builder.specs.Leaders.{is_plain, words_of}
use Rattle.block_builder.proofs.BlockLemmas.{end_is_least, few_words}
use Rattle.word_emitter.specs.Pieces.{ends_with_slot}
use Rattle.emit_spans.specs.declared.span_words.SpanWords.{SpanWords}
use Rattle.emit_spans.specs.Pieces.{begins, piece_at}
use Rattle.emit_spans.proofs.PieceLemmas.{unit-count}

-- where neither holds
neither : (a b : Bool) → a ≡ false → b ≡ false → (a || b) ≡ false
neither true b first second = first
neither false b first second = second

over : (a b : ℕ) → min a b ≤ a
over a b = omega arith

module _ (unit_list : List Word) (leads : ℕ → Bool) (span : SpanWords) (k : ℕ) (above : span.first ≤ k) (below : k < length unit_list)
    (piece : IsPiece unit_list (piece_at unit_list leads span k)) where
  abbrev block : Block
  block = piece_at unit_list leads span k

  abbrev last : ℕ
  last = end_of unit_list leads k

  -- a unit of the piece is none behind that with which its block ends
  up-to-end : (i : ℕ) → i < unit-count unit_list block → k + i ≤ last
  up-to-end i less = by_slot (ends_with_slot unit_list block) refl
    where
      from : k ≤ last
      from = (end_is_least unit_list leads k below).from

      few : words_of (unit_at unit_list last) ≤ 2
      few = few_words (unit_at unit_list last)

      cut : block.words ≤ last - k + words_of (unit_at unit_list last)
      cut = over (last - k + words_of (unit_at unit_list last)) (span.end - k)

      by_slot : (b : Bool) → ends_with_slot unit_list block ≡ b → k + i ≤ last
      by_slot true is =
          let n : unit-count unit_list block ≡ block.words - 1 = ap (λ s. if s then block.words - 1 else block.words) is in
          let a = from in let b = few in let c = cut in
          omega (arith, n, less, a, b, c)
      by_slot false is =
          let n : unit-count unit_list block ≡ block.words = ap (λ s. if s then block.words - 1 else block.words) is in
          let a = from in let b = few in let c = cut in
          elim (cases_Bool (words_of (unit_at unit_list last) == 2)) [
            | inr one ↦ (let other = eqb-false (words_of (unit_at unit_list last)) 2 one in omega (arith, n, less, a, b, c, other))
            | inl two ↦ elim (cases_eq block.words (last - k + 2)) [
              | inr fewer ↦ omega (arith, n, less, a, b, c, fewer)
              | inl all ↦
                  let place : last ≡ k + block.words - 2 = omega (arith, all, a) in
                  let slot : ends_with_slot unit_list block ≡ true =
                  and_from (nat_le 2 block.words) (words_of (unit_at unit_list (k + block.words - 2)) == 2)
                  (le-leb 2 block.words (omega (arith, all)))
                  (subst (λ j. (words_of (unit_at unit_list j) == 2) ≡ true) place two) in
                  absurd (true≢false (sym slot ∙ is))
            ]
          ]

  pub none-begins : (i : ℕ) → 1 ≤ i → i < unit-count unit_list block → begins leads span (k + i) ≡ false
  none-begins i some less =
      let within = up-to-end i less in
      let before : ends unit_list leads (k + i - 1) ≡ false =
      (end_is_least unit_list leads k below).before (k + i - 1) (omega (arith, some)) (omega (arith, within, some)) in
      let second = (or_parts (not (is_plain (unit_at unit_list (k + i - 1)))) (k + i - 1 + 1 == length unit_list || leads (k + i - 1 + 1)) before).1 in
      let third = (or_parts (k + i - 1 + 1 == length unit_list) (leads (k + i - 1 + 1)) second).1 in
      let same : k + i - 1 + 1 ≡ k + i = omega (arith, some) in
      and_right (not span.metered) (k + i == span.first || leads (k + i))
      (neither (k + i == span.first) (leads (k + i)) (ne_eqb (k + i) span.first (λ e. omega (arith, e, some, above)))
      (sym (ap leads same) ∙ third))
