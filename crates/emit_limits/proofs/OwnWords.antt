-- Which words have their units in a piece: no other piece begins with one of them.
use Rattle.std.proofs.Common.{◌≡◌, ℕ, ◌+◌, ◌-◌, ◌<◌, ◌≤◌, ◌==◌, nat_le, Bool, true, false, not, ◌||◌, if◌then◌else◌, List, length, inl, inr, refl, sym, ap, ◌∙◌, arith}
use Rattle.std.specs.Prelude.{find, unwrap_or}
use Rattle.std.specs.List.{range_with_len}
use Rattle.std.proofs.lemmas.Bool.{true≢false, cases_lt, eq-eqb, ne_eqb, or_parts, and_from, and_right, and_parts, le-leb, leb-true}
use Rattle.delay_slots.specs.declared.unit.Unit.{Unit}
use Rattle.block_builder.specs.declared.block.Block.{Block}
use Rattle.block_builder.specs.Leaders.{is_plain, words_of}
use Rattle.block_builder.specs.Blocks.{unit_at, ends, end_of}
use Rattle.block_builder.proofs.BlockLemmas.{end_is_least, few_words, has_words}
use Rattle.word_emitter.specs.Pieces.{ends_with_slot}
use Rattle.emit_spans.specs.declared.span_words.SpanWords.{SpanWords}
use Rattle.emit_spans.specs.Pieces.{begins, piece_at}

-- ---- where a block ends

-- behind the range there is no word to look at
end-past : (units : List Unit) (leads : ℕ → Bool) (k : ℕ) → length units ≤ k → end_of units leads k ≡ k
end-past units leads k past =
    let none : length units - k ≡ 0 = omega arith in
    ap (λ n. unwrap_or (find (ends units leads) (range_with_len k n)) k) none

end-from : (units : List Unit) (leads : ℕ → Bool) (k : ℕ) → k ≤ end_of units leads k
end-from units leads k =
    elim (cases_lt k (length units)) [
      | inl within ↦ (end_is_least units leads k within).from
      | inr past ↦ omega (arith, end-past units leads k past)
    ]

-- no leader stands between
no-leader : (units : List Unit) (leads : ℕ → Bool) (k j : ℕ) → k < j → j ≤ end_of units leads k → leads j ≡ false
no-leader units leads k j behind up =
    elim (cases_lt k (length units)) [
      | inl within ↦
          let before : j - 1 + 1 ≡ j = omega arith in
          let on = (end_is_least units leads k within).before (j - 1) (omega arith) (omega arith) in
          let rest = (or_parts (not (is_plain (unit_at units (j - 1)))) (j - 1 + 1 == length units || leads (j - 1 + 1)) on).1 in
          ap leads (sym before) ∙ (or_parts (j - 1 + 1 == length units) (leads (j - 1 + 1)) rest).1
      | inr past ↦ absurd (omega (arith, end-past units leads k past))
    ]

-- ---- the words of a piece that have units in it

module _ (units : List Unit) (leads : ℕ → Bool) (span : SpanWords) (k : ℕ) where
  abbrev block : Block
  block = piece_at units leads span k

  abbrev last : ℕ
  last = end_of units leads k

  abbrev pub own_count : ℕ
  own_count = if ends_with_slot units block then block.words - 1 else block.words

  count-by : (slot : Bool) → ends_with_slot units block ≡ slot → own_count ≡ (if slot then block.words - 1 else block.words)
  count-by slot is = ap (λ s. if s then block.words - 1 else block.words) is

  pub own-some : k < span.end → 1 ≤ own_count
  own-some less = by_test (ends_with_slot units block) refl
    where
      by_test : (slot : Bool) → ends_with_slot units block ≡ slot → 1 ≤ (if slot then block.words - 1 else block.words)
      by_test true is =
          let two = (and_parts (nat_le 2 block.words) (words_of (unit_at units (k + block.words - 2)) == 2) is).0 in
          omega (arith, leb-true 2 block.words two)
      by_test false is = omega (arith, has_words (unit_at units last), less)

  pub own-within : own_count ≤ span.end - k
  own-within = by_test (ends_with_slot units block)
    where
      by_test : (slot : Bool) → (if slot then block.words - 1 else block.words) ≤ span.end - k
      by_test true = omega arith
      by_test false = omega arith

  -- the word of the delay slot stands behind the last of them
  own-ends : k + own_count ≤ last + 1
  own-ends = by_test (ends_with_slot units block) refl
    where
      by_test : (slot : Bool) → ends_with_slot units block ≡ slot → k + (if slot then block.words - 1 else block.words) ≤ last + 1
      by_test true is = omega (arith, few_words (unit_at units last), end-from units leads k)
      by_test false is =
          elim (cases_lt (last + 1) (k + block.words)) [
            | inr few ↦ few
            | inl more ↦
                let place : k + block.words - 2 ≡ last = omega (arith, few_words (unit_at units last), end-from units leads k, more) in
                let two : words_of (unit_at units (k + block.words - 2)) ≡ 2 = ap (λ j. words_of (unit_at units j)) place
                ∙ omega (arith, few_words (unit_at units last), end-from units leads k, more) in
                let slot : ends_with_slot units block ≡ true = and_from (nat_le 2 block.words)
                (words_of (unit_at units (k + block.words - 2)) == 2) (le-leb 2 block.words (omega (arith, end-from units leads k, more)))
                (eq-eqb (words_of (unit_at units (k + block.words - 2))) 2 two) in
                absurd (true≢false (sym slot ∙ is))
          ]

  pub own-alone : (j : ℕ) → span.first ≤ k → k < j → j < k + own_count → begins leads span j ≡ false
  own-alone j first behind below =
      let other : (j == span.first) ≡ false = ne_eqb j span.first (λ e. omega arith) in
      and_right (not span.metered) (j == span.first || leads j)
      (ap (λ b. b || leads j) other ∙ no-leader units leads k j behind (omega (arith, own-ends)))
