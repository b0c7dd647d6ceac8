-- Where pieces end.
use Rattle.std.proofs.Common.{◌≡◌, ℕ, zero, suc, ◌+◌, ◌*◌, ◌-◌, ◌<◌, ◌≤◌, ◌==◌, nat_le, Bool, true, false, not, cond, ◌&&◌, ◌||◌, if◌then◌else◌, List, [], ◌∷◌, length, min, Option, Some, refl, sym, ap, subst, ◌∙◌, inl, inr, arith}
use Rattle.std.specs.Prelude.{find, unwrap_or}
use Rattle.std.specs.List.{range_with_len}
use Rattle.std.proofs.lemmas.Bool.{cases_Bool, cases_eq, cases_lt, eq-eqb, eqb-true, eqb-false, le-leb, or_parts, or_cases, or_left, or_right, and_from, true≢false}
use Rattle.delay_slots.specs.declared.unit.Unit.{Unit}
use Rattle.delay_slots.specs.declared.unit.Unit.TheVariants as units
use Rattle.block_builder.specs.declared.block.Block.{Block}
use Rattle.block_builder.specs.Leaders.{is_plain, words_of, is_at, direct, makes_leader, make_leader, is_leader}
use Rattle.block_builder.specs.Blocks.{AreUnits, IsPiece, unit_at, ends, end_of, block_from}
use Rattle.block_builder.proofs.BlockLemmas.{end_is_least, few_words, find_here, has_words, block_is_piece, part_is_piece}
use Rattle.word_emitter.specs.Pieces.{ends_with_slot}
use Rattle.emit_spans.specs.declared.span_words.SpanWords.{SpanWords}
use Rattle.emit_spans.specs.Pieces.{piece_words, piece_at}

-- one of the numbers is found where the last of them passes
found : (test : ℕ → Bool) (a m : ℕ) → test (a + m) ≡ true → (x : ℕ) × (find test (range_with_len a (suc m)) ≡ Some x)
found test a zero is =
    let here : test a ≡ true = ap test (omega arith) ∙ is in
    (a, rw here refl)
found test a (suc m) is = by_first (test a) refl (found test (a + 1) m (ap test (omega arith) ∙ is))
  where
    by_first : (passes : Bool) → test a ≡ passes → (x : ℕ) × (find test (range_with_len (a + 1) (suc m)) ≡ Some x)
        → (x : ℕ) × (find test (range_with_len a (suc (suc m))) ≡ Some x)
    by_first true here later = (a, rw here refl)
    by_first false here later = (later.0, rw here later.1)

-- a block ends with the range's last word at the latest
last_ends : (units : List Unit) (leads : ℕ → Bool) (k : ℕ) → k + 1 ≡ length units → ends units leads k ≡ true
last_ends units leads k is = grind (arith, eq-eqb (k + 1) (length units) is)

end_found : (units : List Unit) (leads : ℕ → Bool) (k : ℕ) → k < length units
    → (x : ℕ) × (find (ends units leads) (range_with_len k (length units - k)) ≡ Some x)
end_found units leads k lt =
    let more : length units - k ≡ suc (length units - (k + 1)) = omega arith in
    let there = found (ends units leads) k (length units - (k + 1)) (last_ends units leads (k + (length units - (k + 1))) (omega arith)) in
    (there.0, ap (λ m. find (ends units leads) (range_with_len k m)) more ∙ there.1)

-- the same words are left, so the block ends with the same word
pub end_same : (units : List Unit) (leads : ℕ → Bool) (k last : ℕ) → k ≤ last → last < length units
    → find (ends units leads) (range_with_len last (length units - last)) ≡ find (ends units leads) (range_with_len k (length units - k))
    → end_of units leads last ≡ end_of units leads k
end_same units leads k last le lt same =
    let there = end_found units leads last lt in
    ap (λ (o : Option ℕ). unwrap_or o last) there.1 ∙ sym (ap (λ (o : Option ℕ). unwrap_or o k) (sym same ∙ there.1))

-- a block ends with a word with which it ends
pub end_here : (units : List Unit) (leads : ℕ → Bool) (k : ℕ) → k < length units → ends units leads k ≡ true → end_of units leads k ≡ k
end_here units leads k lt is = ap (λ (o : Option ℕ). unwrap_or o k) (find_here (ends units leads) k (length units) lt is)

pub end_behind : (units : List Unit) (leads : ℕ → Bool) (k : ℕ) → k < length units → k ≤ end_of units leads k
end_behind units leads k lt = (end_is_least units leads k lt).from

-- a block that goes on behind the span has all words up to its end
pub cut_words : (units : List Unit) (leads : ℕ → Bool) (k last end : ℕ) → k ≤ last → last < end
    → last ≡ min (end_of units leads k) (end - 1) → k ≤ end_of units leads k
    → min (last - k + words_of (unit_at units last)) (end - k) ≡ min (block_from units leads k).words (end - k)
cut_words units leads k last end le lt is behind =
    elim (cases_lt (end_of units leads k) end) [
      | inl within ↦ ap (λ j. min (j - k + words_of (unit_at units j)) (end - k)) (omega arith)
      | inr past ↦ omega (arith, has_words (unit_at units last), has_words (unit_at units (end_of units leads k)))
    ]

-- where neither the span nor a block ends, the block goes on
pub goes_on : (units : List Unit) (leads : ℕ → Bool) (k end : ℕ) → k < end → (k + 1 == end || ends units leads k) ≡ false
    → (k + 1 < end) × (ends units leads k ≡ false)
goes_on units leads k end lt on =
    let parts = or_parts (k + 1 == end) (ends units leads k) on in
    let other : k + 1 ≡ end → ⊥ = eqb-false (k + 1) end parts.0 in
    (omega (arith, other), parts.1)

-- where one of them does, that is the piece's last word
pub ends_there : (units : List Unit) (leads : ℕ → Bool) (k end : ℕ) → k < end → end ≤ length units
    → (k + 1 == end || ends units leads k) ≡ true → k ≡ min (end_of units leads k) (end - 1)
ends_there units leads k end lt le is = by_first (k + 1 == end) refl is
  where
    by_first : (b : Bool) → (k + 1 == end) ≡ b → (b || ends units leads k) ≡ true → k ≡ min (end_of units leads k) (end - 1)
    by_first true here _ = omega (arith, eqb-true (k + 1) end here, end_behind units leads k (omega arith))
    by_first false here there = omega (arith, end_here units leads k (omega arith) there)

-- ---- pieces and blocks

pub piece-is-piece : (units : List Unit) (leads : ℕ → Bool) (span : SpanWords) (k : ℕ) → AreUnits units → k < span.end
    → span.end ≤ length units
    → IsPiece units (piece_at units leads span k)
piece-is-piece units leads span k known lt le =
    part_is_piece units (block_from units leads k) k (piece_words units leads span k) (block_is_piece units leads k known (omega arith))
    (omega arith) (omega arith)

-- how many units a piece has
abbrev pub unit-count : List Unit → Block → ℕ
unit-count units b = if ends_with_slot units b then b.words - 1 else b.words

-- behind a unit of a piece that is not its last one stands a word of the piece
pub unit-followed : (units : List Unit) (b : Block) (i : ℕ) → i + 1 < unit-count units b
    → b.first + i + words_of (unit_at units (b.first + i)) < b.first + b.words
unit-followed units b i = by_test (ends_with_slot units b) refl
  where
    place : ℕ
    place = b.first + i

    few : words_of (unit_at units place) ≤ 2
    few = few_words (unit_at units place)

    by_test : (slot : Bool) → ends_with_slot units b ≡ slot → i + 1 < (if slot then b.words - 1 else b.words)
        → b.first + i + words_of (unit_at units place) < b.first + b.words
    by_test true is less = omega (arith, few, less)
    by_test false is less = elim (cases_Bool (words_of (unit_at units place) == 2)) [
      | inr one ↦ (let other = eqb-false (words_of (unit_at units place)) 2 one in omega (arith, few, less, other))
      | inl two ↦ elim (cases_eq (i + 2) b.words) [
        | inr more ↦ omega (arith, few, less, more)
        | inl all ↦
            let there : place ≡ b.first + b.words - 2 = omega (arith, all) in
            let slot : ends_with_slot units b ≡ true =
            and_from (nat_le 2 b.words) (words_of (unit_at units (b.first + b.words - 2)) == 2) (le-leb 2 b.words (omega (arith, all)))
            (subst (λ j. (words_of (unit_at units j) == 2) ≡ true) there two) in
            absurd (true≢false (sym slot ∙ is))
      ]
    ]

-- the unit of a word makes a leader
made : (start : ℕ) (units : List Unit) (from k i : ℕ) → i < length units → makes_leader start (unit_at units i) (from + i) k ≡ true
    → make_leader start units from k ≡ true
made start [] from k i lt is = absurd (omega arith)
made start (unit ∷ units) from k zero lt is =
    let here : from + 0 ≡ from = omega arith in
    or_left (makes_leader start unit from k) (make_leader start units (from + 1) k) (ap (λ i. makes_leader start unit i k) (sym here) ∙ is)
made start (unit ∷ units) from k (suc i) lt is =
    let here : from + 1 + i ≡ from + suc i = omega arith in
    or_right (makes_leader start unit from k) (make_leader start units (from + 1) k)
    (made start units (from + 1) k i (omega arith) (ap (λ j. makes_leader start (unit_at units i) j k) here ∙ is))

plain-words : (unit : Unit) → is_plain unit ≡ true → words_of unit ≡ 1
plain-words (units.Plain i) is = refl
plain-words (units.Branch i slot) is = cc
plain-words (units.SlotMissing i) is = refl
plain-words (units.SlotIsBranch i word) is = refl
plain-words units.Call is = refl
plain-words (units.Trap kind value) is = refl

-- behind a unit that is not Plain, and its delay slot, stands a leader
behind-leads : (units : List Unit) (start k : ℕ) → k < length units → is_plain (unit_at units k) ≡ false
    → is_leader units start (k + words_of (unit_at units k)) ≡ true
behind-leads units start k lt is =
    let j = k + words_of (unit_at units k) in
    let same : (j == 0 + k + words_of (unit_at units k)) ≡ true = eq-eqb j (0 + k + words_of (unit_at units k)) (omega arith) in
    or_right (j == 0) (make_leader start units 0 j) (made start units 0 j k lt
    (or_right (is_at (direct (unit_at units k) (start + 4 * (0 + k))) (start + 4 * j))
    (not (is_plain (unit_at units k)) && j == 0 + k + words_of (unit_at units k)) (and_from _ _ (ap not is) same)))

found-passes : (test : ℕ → Bool) (ks : List ℕ) (x : ℕ) → find test ks ≡ Some x → test x ≡ true
found-passes test [] x is = cc
found-passes test (k ∷ ks) x is = by_first (test k) refl (found-passes test ks x) is
  where
    by_first : (b : Bool) → test k ≡ b → (find test ks ≡ Some x → test x ≡ true) → cond b (Some k) (find test ks) ≡ Some x → test x ≡ true
    by_first true here later there = let same : k ≡ x = cc in ap test (sym same) ∙ here
    by_first false here later there = later there

-- a block ends with its last word
end-ends : (units : List Unit) (leads : ℕ → Bool) (k : ℕ) → k < length units → ends units leads (end_of units leads k) ≡ true
end-ends units leads k lt =
    let there = end_found units leads k lt in
    let last : end_of units leads k ≡ there.0 = ap (λ (o : Option ℕ). unwrap_or o k) there.1 in
    ap (ends units leads) last ∙ found-passes (ends units leads) (range_with_len k (length units - k)) there.0 there.1

-- behind the last word of a block, and its delay slot, stands a leader
behind-end : (units : List Unit) (leads : ℕ → Bool) (start last : ℕ) → ((j : ℕ) → j < length units → leads j ≡ is_leader units start j)
    → ends units leads last ≡ true → last + words_of (unit_at units last) < length units → leads
    (last + words_of (unit_at units last)) ≡ true
behind-end units leads start last same is within = by_plain (is_plain (unit_at units last)) refl is
  where
    some : 0 < words_of (unit_at units last)
    some = has_words (unit_at units last)

    by_plain : (b : Bool) → is_plain (unit_at units last) ≡ b → (not b || (last + 1 == length units || leads (last + 1))) ≡ true
        → leads (last + words_of (unit_at units last)) ≡ true
    by_plain false plain there = same (last + words_of (unit_at units last)) within
        ∙ behind-leads units start last (omega (arith, some)) plain
    by_plain true plain there =
        let one : words_of (unit_at units last) ≡ 1 = plain-words (unit_at units last) plain in
        let not_last : last + 1 ≡ length units → ⊥ = λ e. absurd (omega arith) in
        elim (or_cases (last + 1 == length units) (leads (last + 1)) there) [
          | inl end ↦ absurd (not_last (eqb-true (last + 1) (length units) end))
          | inr leader ↦ ap (λ n. leads (last + n)) one ∙ leader
        ]

pub piece-followed : (units : List Unit) (leads : ℕ → Bool) (start : ℕ) (span : SpanWords) (k : ℕ)
    → ((j : ℕ) → j < length units → leads j ≡ is_leader units start j)
    → k < span.end → span.end ≤ length units → k + piece_words units leads span k < span.end → leads
    (k + piece_words units leads span k) ≡ true
piece-followed units leads start span k same lt le goes_on =
    let last = end_of units leads k in
    let from = end_behind units leads k (omega arith) in
    let there : k + piece_words units leads span k ≡ last + words_of (unit_at units last) = omega arith in
    ap leads there ∙ behind-end units leads start last same (end-ends units leads k (omega arith)) (omega arith)
