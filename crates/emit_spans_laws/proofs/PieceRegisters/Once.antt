-- A piece reads the field of a register where it fetches the register, and writes it where it puts the register back: once each.
use Rattle.std.proofs.Common.{◌≡◌, ◌≢◌, ℕ, zero, suc, ◌+◌, ◌-◌, ◌<◌, ◌≤◌, ◌==◌, Bool, true, false, if◌then◌else◌, List, [], ◌∷◌, ◌++◌, map, length, inl, inr, refl, ap, arith}
use Rattle.std.specs.List.{flat_map, range_with_len}
use Rattle.std.proofs.lemmas.Bool.{cases_eq, ne_eqb}
use Rattle.delay_slots.specs.declared.unit.Unit.{Unit as Word}
use Rattle.block_builder.specs.Blocks.{unit_at}
use Rattle.jvm_definition.specs.declared.instruction.Instruction.{Instruction}
use Rattle.emit_steps.specs.declared.step.Step.{Step}
use Rattle.emit_steps.specs.declared.step.Step.TheVariants.{Does, Skips, Leaves, Selects}
use Rattle.emit_layout.specs.FieldNumbers.{register_field}
use Rattle.word_emitter.specs.declared.extent.Extent.{Extent}
use Rattle.word_emitter.specs.Pieces.{bank_of, fetched, for_registers, is_needed, is_written, piece_units, put_back, units_code, warm_code}
use Rattle.emit_spans.specs.declared.span_words.SpanWords.{SpanWords}
use Rattle.emit_spans.specs.Pieces.{begins, piece_at}
use Rattle.emit_spans.specs.Neighbours.{address, next_such}
use Rattle.emit_spans.specs.Parts.{cold_part, exit_of, extent, warm_part}
use Rattle.emit_spans.specs.Laying.{laid_step, return_offset, targets_of}
use Rattle.emit_spans.specs.Standing.{laid_part}
use Rattle.emit_paths_laws.specs.Paths.{LooksAtNoTarget, step_weight, weigh}
use Rattle.emit_paths_laws.proofs.Weighing.{weigh-both}
use Rattle.emit_paths_laws.specs.Classes.{gets, puts}
use Rattle.emit_spans_laws.proofs.PieceRegisters.Touching.{Quiet, gets-touch, puts-touch, touches, weigh-less}
use Rattle.emit_spans_laws.proofs.PieceRegisters.Units.{piece-quiet}
use Rattle.emit_spans_laws.proofs.PieceRegisters.Ways.{exit-quiet}

-- ---- code for each of some registers

-- Code for each register weighs 1 at most where the code for q does, and that for any other register nothing.
module _ (weight : Instruction → ℕ) (test : ℕ → Bool) (code : ℕ → List Step) (q : ℕ) (one : weigh weight (code q) ≤ 1)
    (none : (r : ℕ) → 1 ≤ r → r ≢ q → weigh weight (code r) ≡ 0) where
  tested : ℕ → List Step
  tested r = if test r then code r else []

  some-of : (b : Bool) (part : List Step) → weigh weight (if b then part else []) ≤ weigh weight part
  some-of true part = omega arith
  some-of false part = omega arith

  behind-it : (n a : ℕ) → q < a → weigh weight (flat_map (λ r. if test r then code r else []) (range_with_len a n)) ≡ 0
  behind-it zero a above = refl
  behind-it (suc n) a above =
      let here : List Step = if test a then code a else [] in
      let others : List Step = flat_map (λ r. if test r then code r else []) (range_with_len (a + 1) n) in
      let both = weigh-both weight here others in
      let some = some-of (test a) (code a) in
      let other = none a (omega arith) (λ same. omega (arith, same)) in
      let rest = behind-it n (a + 1) (omega arith) in
      omega (arith, both, some, other, rest)

  once-from : (n a : ℕ) → 1 ≤ a → weigh weight (flat_map (λ r. if test r then code r else []) (range_with_len a n)) ≤ 1
  once-from zero a positive = omega arith
  once-from (suc n) a positive =
      let here : List Step = if test a then code a else [] in
      let others : List Step = flat_map (λ r. if test r then code r else []) (range_with_len (a + 1) n) in
      let both = weigh-both weight here others in
      let some = some-of (test a) (code a) in
      elim (cases_eq a q) [
        | inl same ↦
            let own : weigh weight (code a) ≡ weigh weight (code q) = ap (λ r. weigh weight (code r)) same in
            let rest = behind-it n (a + 1) (omega (arith, same)) in
            omega (arith, both, some, own, one, rest)
        | inr other ↦
            let own = none a positive other in
            let rest = once-from n (a + 1) (omega arith) in
            omega (arith, both, some, own, rest)
      ]

  pub each-once : weigh weight (for_registers test code) ≤ 1
  each-once = once-from 31 1 (omega arith)

-- code for each register weighs nothing where the code for any register does
pub each-none : (weight : Instruction → ℕ) (test : ℕ → Bool) (code : ℕ → List Step) → ((r : ℕ) → weigh weight (code r) ≡ 0) → (rs : List ℕ)
    → weigh weight (flat_map (λ r. if test r then code r else []) rs) ≡ 0
each-none weight test code none [] = refl
each-none weight test code none (r ∷ rs) =
    let here : List Step = if test r then code r else [] in
    let others : List Step = flat_map (λ r. if test r then code r else []) rs in
    let both = weigh-both weight here others in
    let some : weigh weight here ≡ 0 = by_test (test r) in
    let rest = each-none weight test code none rs in
    omega (arith, both, some, rest)
  where
    by_test : (b : Bool) → weigh weight (if b then code r else []) ≡ 0
    by_test true = none r
    by_test false = refl

-- code weighs the same when it is laid down
weigh-laid : (weight : Instruction → ℕ) (span : Extent) (targets : List ℕ) (otherwise : ℕ) (code : List Step)
    → weigh weight (map (laid_step span targets otherwise) code) ≡ weigh weight code
weigh-laid weight span targets otherwise [] = refl
weigh-laid weight span targets otherwise (s ∷ code) =
    let here : step_weight weight (laid_step span targets otherwise s) ≡ step_weight weight s = at_step s in
    let rest = weigh-laid weight span targets otherwise code in
    omega (arith, here, rest)
  where
    at_step : (s : Step) → step_weight weight (laid_step span targets otherwise s) ≡ step_weight weight s
    at_step (Does instruction) = refl
    at_step (Skips name n) = refl
    at_step (Leaves target) = refl
    at_step (Selects table) = refl

-- ---- pieces

-- A weight of instructions that reach the field of register q: what a piece fetches and puts back weighs 1 at most.
pub record CountsOnce (q : ℕ) (weight : Instruction → ℕ) : Type 0 where
  pub less : (i : Instruction) → weight i ≤ touches (register_field q) i
  pub ends : (needed written : ℕ → Bool) → weigh weight (for_registers needed fetched) + weigh weight (for_registers written put_back) ≤ 1
  pub still : LooksAtNoTarget weight

module _ (q : ℕ) (low : 1 ≤ q) (high : q ≤ 31) where
  another : (r : ℕ) → 1 ≤ r → r ≢ q → (register_field r == register_field q) ≡ false
  another r positive other = ne_eqb (register_field r) (register_field q) (λ same. other (omega (arith, same, positive)))

  some-if : (b : Bool) → (if b then 1 else 0) ≤ 1
  some-if true = omega arith
  some-if false = omega arith

  -- ---- reads and writes

  pub reads-once : CountsOnce q (gets (register_field q))
  reads-once = record {
    less = gets-touch (register_field q);
    ends = λ needed written.
        let first = each-once (gets (register_field q)) needed fetched q
        (let few = some-if (register_field q == register_field q) in omega (arith, few))
        (λ r positive other. rw (another r positive other) refl) in
        let last : weigh (gets (register_field q)) (for_registers written put_back) ≡ 0 =
        each-none (gets (register_field q)) written put_back (λ r. refl) (range_with_len 1 31) in
        omega (arith, first, last);
    still = λ name t u. refl;
  }

  pub writes-once : CountsOnce q (puts (register_field q))
  writes-once = record {
    less = puts-touch (register_field q);
    ends = λ needed written.
        let first : weigh (puts (register_field q)) (for_registers needed fetched) ≡ 0 =
        each-none (puts (register_field q)) needed fetched (λ r. refl) (range_with_len 1 31) in
        let last = each-once (puts (register_field q)) written put_back q
        (let few = some-if (register_field q == register_field q) in omega (arith, few))
        (λ r positive other. rw (another r positive other) refl) in
        omega (arith, first, last);
    still = λ name t u. refl;
  }

  module _ (weight : Instruction → ℕ) (once : CountsOnce q weight) where
    quiet-weighs : (code : List Step) → Quiet q code → weigh weight code ≡ 0
    quiet-weighs code quiet = weigh-less weight (touches (register_field q)) once.less code quiet

    warm-once : (piece : List Word) (at : ℕ) → weigh weight (warm_code piece at) ≤ 1
    warm-once piece at =
        let front = for_registers (is_needed piece) fetched in
        let middle = units_code (bank_of piece) piece at in
        let back = for_registers (is_written piece) put_back in
        let outer = weigh-both weight (front ++ middle) back in
        let inner = weigh-both weight front middle in
        let ends = once.ends (is_needed piece) (is_written piece) in
        let none = quiet-weighs middle (piece-quiet q low high piece at) in
        omega (arith, outer, inner, ends, none)

    -- with the way on behind it
    pub part-once : (unit_list : List Word) (leads : ℕ → Bool) (span : SpanWords) (k : ℕ) → weigh weight (warm_part unit_list leads span k) ≤ 1
    part-once unit_list leads span k =
        let own = piece_units unit_list (piece_at unit_list leads span k) in
        let behind = next_such (begins leads span) span k in
        let last = k + length own - 1 in
        let way = exit_of unit_list span behind last in
        let both = weigh-both weight (warm_code own (address span k)) way in
        let warm = warm-once own (address span k) in
        let none = quiet-weighs way (exit-quiet q low high (extent span) behind (unit_at unit_list last) (address span last)) in
        omega (arith, both, warm, none)

    pub laid-once : (unit_list : List Word) (leads : ℕ → Bool) (span : SpanWords) (k : ℕ) → begins leads span k ≡ true
        → weigh weight (laid_part unit_list leads span k) ≤ 1
    laid-once unit_list leads span k begin =
        let part = if begins leads span k then warm_part unit_list leads span k else cold_part unit_list leads span k in
        let laid = weigh-laid weight (extent span) (targets_of unit_list leads span) (return_offset unit_list leads span) part in
        let warm : weigh weight part ≡ weigh weight (warm_part unit_list leads span k) =
        ap (λ b. weigh weight (if b then warm_part unit_list leads span k else cold_part unit_list leads span k)) begin in
        let few = part-once unit_list leads span k in
        omega (arith, laid, warm, few)
