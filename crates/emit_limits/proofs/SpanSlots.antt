-- The constants of a span are those of its words.
use Rattle.std.proofs.Common.{◌≡◌, ℕ, zero, suc, ◌+◌, ◌-◌, ◌*◌, ◌%◌, ◌<◌, ◌≤◌, ◌==◌, ◌&&◌, ◌||◌, not, nat_le, inl, inr, Bool, true, false, if◌then◌else◌, List, [], ◌∷◌, ◌++◌, length, map, take, drop, replicate, Option, refl, ap, sym, subst, arith}
use Rattle.std.specs.List.{flat_map, range_with_len}
use Rattle.std.proofs.lemmas.Bool.{cases_eq, cases_lt, leb-true, leb-false, true≢false}
use Rattle.std.proofs.lemmas.List.{drop_more, drop_all, length-take}
use Rattle.delay_slots.specs.declared.unit.Unit.{Unit}
use Rattle.delay_slots.specs.declared.unit.Unit.TheVariants.{Call}
use Rattle.block_builder.specs.declared.block.Block.{Block}
use Rattle.block_builder.specs.Blocks.{unit_at}
use Rattle.jvm_definition.specs.declared.constant.Constant.{Constant}
use Rattle.jvm_definition.specs.declared.constant.Constant.TheVariants.{Int}
use Rattle.jvm_definition.specs.declared.instruction.Instruction.TheVariants.{Nop}
use Rattle.emit_steps.specs.declared.step.Step.{Step}
use Rattle.emit_steps.specs.declared.step.Step.TheVariants.{Does, Skips, Leaves, Selects}
use Rattle.emit_steps.specs.Widths.{size}
use Rattle.emit_instructions.specs.Units.{unit_code}
use Rattle.word_emitter.specs.declared.extent.Extent.{Extent}
use Rattle.word_emitter.specs.Pieces.{ends_with_slot, piece_units, is_needed, is_written, bank_of, units_code, fetched, put_back, for_registers, warm_code}
use Rattle.emit_steps.specs.Returning.{returns}
use Rattle.emit_spans.specs.declared.span_words.SpanWords.{SpanWords}
use Rattle.emit_spans.specs.Pieces.{all_words, begins, piece_at}
use Rattle.emit_spans.specs.Neighbours.{address, is_inner, next_such}
use Rattle.emit_spans.specs.Parts.{extent, exit_of, warm_part, front_of, cold_part}
use Rattle.emit_spans.specs.Opening.{index_code, padding, opening}
use Rattle.emit_spans.specs.Laying.{laid_step, switch, targets_of, return_offset, warm_before, cold_before, span_code}
use Rattle.emit_assembly.specs.Assembling.{pushed_by, constants_of, slots_of}
use Rattle.emit_limits.proofs.Counting.{Within, all_slots, few-slots, all-append, within-left, within-right, within-append, within-free, within-self}
use Rattle.emit_limits.proofs.StepSlots.{taken-all, word-slots}
use Rattle.emit_limits.proofs.UnitSlots.{unit-slots}
use Rattle.emit_limits.proofs.AlikeCode.{unit-alike}
use Rattle.emit_limits.proofs.Pushing.{Pushes, pushes-append, pushes-free, pushes-each, pushes-registers}
use Rattle.emit_limits.proofs.Ways.{way_goals, goals-few, own_goals, exit-pushes, own-pushes}
use Rattle.emit_limits.proofs.GuardSlots.{front_goals, front-goals-few, front-pushes}

-- ---- the opening, and what is laid down

nops-push : (constants : List Constant) (n : ℕ) → Pushes constants (replicate n (Does Nop))
nops-push constants zero = pushes-free constants [] (omega arith)
nops-push constants (suc n) = nops-push constants n

opening-pushes : (first : ℕ) (constants : List Constant) → Pushes (Int first ∷ constants) (opening first)
opening-pushes first constants =
    let all = Int first ∷ constants in
    pushes-append all (padding (size (index_code first))) (index_code first)
    (nops-push all ((3 * size (index_code first) + 3) % 4))
    (within-append (Int first ∷ []) (Int 2 ∷ Int 30 ∷ []) all
    (within-left (Int first ∷ []) (Int first ∷ []) constants (within-self (Int first ∷ [])))
    (within-free (Int 2 ∷ Int 30 ∷ []) all refl))

laid-pushes : (span : Extent) (targets : List ℕ) (otherwise : ℕ) (s : Step) → pushed_by (laid_step span targets otherwise s) ≡ pushed_by s
laid-pushes span targets otherwise (Does instruction) = refl
laid-pushes span targets otherwise (Skips name k) = refl
laid-pushes span targets otherwise (Leaves at) = refl
laid-pushes span targets otherwise (Selects s) = refl

all-laid : (span : Extent) (targets : List ℕ) (otherwise : ℕ) (code : List Step)
    → constants_of (map (laid_step span targets otherwise) code) ≡ constants_of code
all-laid span targets otherwise [] = refl
all-laid span targets otherwise (s ∷ code) = λ i. laid-pushes span targets otherwise s i ++ all-laid span targets otherwise code i

-- ---- constants of one of some numbers

within-one : (F : ℕ → List Constant) (a m k : ℕ) (xs : List Constant) → a ≤ k → k < a + m → Within xs (F k)
    → Within xs (flat_map F (range_with_len a m))
within-one F a zero k xs from below within = absurd (omega arith)
within-one F a (suc m) k xs from below within =
    let others = flat_map F (range_with_len (a + 1) m) in
    elim (cases_eq k a) [
      | inl same ↦ within-left xs (F a) others (subst (λ j. Within xs (F j)) same within)
      | inr other ↦ within-right xs (F a) others (within-one F (a + 1) m k xs (omega arith) (omega arith) within)
    ]

module _ (units : List Unit) (leads : ℕ → Bool) (span : SpanWords) where
  -- ---- the constants of words

  abbrev goals_at : ℕ → List Constant
  goals_at k = way_goals (unit_at units k) (address span k)

  abbrev fronts_at : ℕ → List Constant
  fronts_at k = front_goals span.metered (address span k)

  -- what its way pushes that a branch pushes itself is not counted again
  abbrev own_constants : ℕ → List Constant
  own_constants k = constants_of (unit_code 0 (unit_at units k) (address span k)) ++ own_goals (unit_at units k) (address span k)

  abbrev word_constants : ℕ → List Constant
  word_constants k = fronts_at k ++ own_constants k

  abbrev word_before : ℕ
  word_before = span.first - 1

  -- where the word before the first goes: a piece that has no units ends with it. With a meter there are no pieces.
  abbrev goals_before : List Constant
  goals_before = if span.metered || nat_le span.end span.first then [] else goals_at word_before

  -- those of all words, and the first word's address
  abbrev all_constants : List Constant
  all_constants = Int (address span span.first) ∷ (goals_before ++ flat_map word_constants (all_words span))

  abbrev most_of_word : ℕ
  most_of_word = if span.metered then 9 else 8

  fronts-few : (k : ℕ) → all_slots (fronts_at k) + 8 ≤ most_of_word
  fronts-few k = by_meter span.metered
    where
      by_meter : (metered : Bool) → all_slots (front_goals metered (address span k)) + 8 ≤ (if metered then 9 else 8)
      by_meter true = omega (arith, front-goals-few true (address span k))
      by_meter false = omega arith

  word-few : (k : ℕ) → all_slots (word_constants k) ≤ most_of_word
  word-few k =
      let code = unit_code 0 (unit_at units k) (address span k) in
      omega (
        arith,
        all-append (fronts_at k) (own_constants k),
        all-append (constants_of code) (own_goals (unit_at units k) (address span k)),
        taken-all code,
        unit-slots 0 (unit_at units k) (address span k),
        fronts-few k,
      )

  words-few : (a m : ℕ) → all_slots (flat_map word_constants (range_with_len a m)) ≤ most_of_word * m
  words-few a zero = omega arith
  words-few a (suc m) =
      omega (arith, all-append (word_constants a) (flat_map word_constants (range_with_len (a + 1) m)), word-few a, words-few (a + 1) m)

  all-few : all_slots all_constants ≤ 2 + 9 * (span.end - span.first)
  all-few =
      omega (
        arith,
        word-slots (address span span.first),
        all-append goals_before (flat_map word_constants (all_words span)),
        before-few,
        words-few span.first (span.end - span.first),
      )
    where
      by_tests : (metered empty : Bool) → nat_le span.end span.first ≡ empty
          → all_slots (if metered || empty then [] else goals_at word_before) + (if metered then 9 else 8) * (span.end - span.first)
          ≤ 1 + 9 * (span.end - span.first)
      by_tests true empty is = omega arith
      by_tests false true is = omega arith
      by_tests false false is =
          omega (arith, goals-few (unit_at units word_before) (address span word_before), leb-false span.end span.first is)

      before-few : all_slots goals_before + most_of_word * (span.end - span.first) ≤ 1 + 9 * (span.end - span.first)
      before-few = by_tests span.metered (nat_le span.end span.first) refl

  -- ---- the code of words

  word-within : (k : ℕ) (xs : List Constant) → span.first ≤ k → k < span.end → Within xs (word_constants k) → Within xs all_constants
  word-within k xs from below within =
      let words = flat_map word_constants (all_words span) in
      within-right xs (Int (address span span.first) ∷ []) (goals_before ++ words)
      (within-right xs goals_before words
      (within-one word_constants span.first (span.end - span.first) k xs from (omega arith) within))

  unit-pushes : (bank k : ℕ) → span.first ≤ k → k < span.end → Pushes all_constants (unit_code bank (unit_at units k) (address span k))
  unit-pushes bank k from below =
      let own = constants_of (unit_code 0 (unit_at units k) (address span k)) in
      let goals = own_goals (unit_at units k) (address span k) in
      word-within k (constants_of (unit_code bank (unit_at units k) (address span k))) from below
      (subst (λ cs. Within cs (word_constants k)) (sym (unit-alike bank (unit_at units k) (address span k)))
      (within-right own (fronts_at k) (own_constants k) (within-left own own goals (within-self own))))

  way-pushes : (behind : Option ℕ) (k : ℕ) → span.first ≤ k + 1 → k < span.end → (k < span.first → goals_before ≡ goals_at word_before)
      → Pushes all_constants (exit_of units span behind k)
  way-pushes behind k from below first_goes =
      let xs = constants_of (exit_of units span behind k) in
      let own = exit-pushes (extent span) behind (unit_at units k) (address span k) in
      let words = flat_map word_constants (all_words span) in
      elim (cases_lt k span.first) [
        | inl before ↦
            let is : k ≡ word_before = omega arith in
            within-right xs (Int (address span span.first) ∷ []) (goals_before ++ words)
            (within-left xs goals_before words (subst (Within xs) (sym (first_goes before)) (subst (λ j. Within xs (goals_at j)) is own)))
        | inr first ↦
            word-within k xs first below
            (within-right xs (fronts_at k) (own_constants k) (own-pushes (extent span) behind (unit_at units k) (address span k)))
      ]

  cold-pushes : (k : ℕ) → span.first ≤ k → k < span.end → Pushes all_constants (cold_part units leads span k)
  cold-pushes k from below =
      let behind = next_such (is_inner leads span) span k in
      let front = front_of span.metered (unit_at units k) (address span k) in
      let code = unit_code 0 (unit_at units k) (address span k) in
      pushes-append all_constants front (code ++ exit_of units span behind k)
      (word-within k (constants_of front) from below
      (within-left (constants_of front) (fronts_at k) (own_constants k) (front-pushes span.metered (unit_at units k) (address span k))))
      (pushes-append all_constants code (exit_of units span behind k) (unit-pushes 0 k from below)
      (way-pushes behind k (omega arith) below (λ before. absurd (omega (arith, from, before)))))

  -- ---- the code of pieces

  units-push : (bank n k : ℕ) → span.first ≤ k → n ≤ span.end - k
      → Pushes all_constants (units_code bank (take n (drop k units)) (address span k))
  units-push bank zero k from few = pushes-free all_constants [] (omega arith)
  units-push bank (suc n) k from few =
      let rest = take n (drop (k + 1) units) in
      let next : address span (k + 1) ≡ address span k + 4 = omega arith in
      let behind = subst (λ at. Pushes all_constants (units_code bank rest at)) next (units-push bank n (k + 1) (omega arith) (omega arith)) in
      elim (cases_lt k (length units)) [
        | inl within ↦
            let is : take (suc n) (drop k units) ≡ unit_at units k ∷ rest = ap (take (suc n)) (drop_more units k Call within) in
            subst (λ us. Pushes all_constants (units_code bank us (address span k))) (sym is)
            (pushes-append all_constants (unit_code bank (unit_at units k) (address span k)) (units_code bank rest (address span k + 4))
            (unit-pushes bank k from (omega arith)) behind)
        | inr past ↦
            let is : take (suc n) (drop k units) ≡ [] = ap (take (suc n)) (drop_all k units past) in
            subst (λ us. Pushes all_constants (units_code bank us (address span k))) (sym is) (pushes-free all_constants [] (omega arith))
      ]

  abbrev block : ℕ → Block
  block k = piece_at units leads span k

  abbrev own_count : ℕ → ℕ
  own_count k = if ends_with_slot units (block k) then (block k).words - 1 else (block k).words

  few-own : (k : ℕ) → own_count k ≤ span.end - k
  few-own k = by_test (ends_with_slot units (block k))
    where
      by_test : (slot : Bool) → (if slot then (block k).words - 1 else (block k).words) ≤ span.end - k
      by_test true = omega arith
      by_test false = omega arith

  -- where a piece begins
  piece-before : (k : ℕ) → span.first ≤ k → k < span.end → begins leads span k ≡ true → goals_before ≡ goals_at word_before
  piece-before k from below begin = by_tests span.metered (nat_le span.end span.first) refl begin
    where
      by_tests : (metered empty : Bool) → nat_le span.end span.first ≡ empty → (not metered && (k == span.first || leads k)) ≡ true
          → (if metered || empty then [] else goals_at word_before) ≡ goals_at word_before
      by_tests true empty is begins_here = absurd (true≢false (sym begins_here))
      by_tests false true is begins_here = absurd (let few = leb-true span.end span.first is in omega (arith, few, from, below))
      by_tests false false is begins_here = refl

  warm-pushes : (k : ℕ) → span.first ≤ k → k < span.end → begins leads span k ≡ true → Pushes all_constants (warm_part units leads span k)
  warm-pushes k from below begin =
      let own = piece_units units (block k) in
      let behind = next_such (begins leads span) span k in
      let last = k + length own - 1 in
      let fetches = for_registers (is_needed own) fetched in
      let body = units_code (bank_of own) own (address span k) in
      let put_backs = for_registers (is_written own) put_back in
      let registers = range_with_len 1 31 in
      let few : length own ≤ span.end - k = omega (arith, length-take (own_count k) (drop k units), few-own k) in
      pushes-append all_constants (warm_code own (address span k)) (exit_of units span behind last)
      (pushes-append all_constants (fetches ++ body) put_backs
      (pushes-append all_constants fetches body
      (pushes-registers all_constants (is_needed own) fetched (λ r. pushes-free all_constants (fetched r) (omega arith)) registers)
      (units-push (bank_of own) (own_count k) k from (few-own k)))
      (pushes-registers all_constants (is_written own) put_back (λ r. pushes-free all_constants (put_back r) (omega arith)) registers))
      (way-pushes behind last (omega (arith, from, below)) (omega (arith, few, below)) (λ before. piece-before k from below begin))

  -- ---- all of it

  span-pushes : Pushes all_constants (span_code units leads span)
  span-pushes =
      let warm = warm_before units leads span span.end in
      let cold = cold_before units leads span span.end in
      let targets = targets_of units leads span in
      let otherwise = return_offset units leads span in
      let body = map (laid_step (extent span) targets otherwise) (warm ++ cold) in
      let words = span.end - span.first in
      let parts : Pushes all_constants (warm ++ cold) = pushes-append all_constants warm cold
      (pushes-each all_constants (warm_part units leads span) (begins leads span) span.first words
      (λ k from below begin. warm-pushes k from (omega arith) begin))
      (pushes-each all_constants (cold_part units leads span) (is_inner leads span) span.first words
      (λ k from below inner. cold-pushes k from (omega arith))) in
      pushes-append all_constants (opening (address span span.first)) (switch targets otherwise ∷ (body ++ returns ∷ []))
      (opening-pushes (address span span.first) (goals_before ++ flat_map word_constants (all_words span)))
      (pushes-append all_constants body (returns ∷ [])
      (subst (λ cs. Within cs all_constants) (sym (all-laid (extent span) targets otherwise (warm ++ cold))) parts)
      (pushes-free all_constants (returns ∷ []) (omega arith)))

  pub span-few : slots_of (span_code units leads span) ≤ 2 + 9 * (span.end - span.first)
  span-few = omega (arith, few-slots (constants_of (span_code units leads span)) all_constants span-pushes, all-few)
