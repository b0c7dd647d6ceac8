-- The method of a span keeps to the bytes of its words.
use Rattle.std.proofs.Common.{◌≡◌, ℕ, zero, suc, ◌+◌, ◌-◌, ◌*◌, ◌%◌, ◌<◌, ◌≤◌, Bool, true, false, if◌then◌else◌, List, ◌++◌, length, map, drop, min, replicate, inl, inr, refl, ap, ◌∙◌, arith}
use Rattle.std.specs.Prelude.{sum_by}
use Rattle.std.proofs.lemmas.Bool.{cases_Bool, cases_lt}
use Rattle.std.proofs.lemmas.List.{length-take, length-drop, drop_all, get_or_past}
use Rattle.std.proofs.lemmas.List.Sums.{sum_by-take-le}
use Rattle.mips_definition.specs.declared.inst.Inst.{Inst}
use Rattle.mips_definition.specs.declared.inst.Inst.TheVariants as inst
use Rattle.delay_slots.specs.declared.unit.Unit.{Unit}
use Rattle.delay_slots.specs.declared.unit.Unit.TheVariants.{Plain, Branch, SlotMissing, SlotIsBranch, Call, Trap}
use Rattle.block_builder.specs.Blocks.{unit_at}
use Rattle.jvm_definition.specs.declared.instruction.Instruction.TheVariants.{Nop}
use Rattle.emit_steps.specs.declared.step.Step.TheVariants.{Does}
use Rattle.emit_steps.specs.Widths.{size}
use Rattle.emit_instructions.specs.Units.{unit_code}
use Rattle.word_emitter.specs.Pieces.{piece_units, warm_code}
use Rattle.meter.specs.Laws.{guard_bytes}
use Rattle.meter.proofs.GuardSizes.{guard-bytes}
use Rattle.method_splitter.specs.Cuts.{span_weight}
use Rattle.emit_spans.specs.declared.span_words.SpanWords.{SpanWords}
use Rattle.emit_spans.specs.Pieces.{all_words, begins, piece_at}
use Rattle.emit_spans.specs.Neighbours.{address, is_inner, next_such}
use Rattle.emit_spans.specs.Parts.{extent, exit_of, warm_part, front_of, cold_part}
use Rattle.emit_spans.specs.Opening.{index_code, padding, opening}
use Rattle.emit_spans.specs.Laying.{span_code}
use Rattle.emit_spans.proofs.BodyLemmas.{size-append}
use Rattle.emit_spans.proofs.SizeLemmas.{span-size}
use Rattle.emit_limits.specs.Weights.{unit_bytes, exit_bytes, branch_exit_bytes, register_bytes, weight_of}
use Rattle.emit_limits.proofs.StepSizes.{word-bytes}
use Rattle.emit_limits.proofs.UnitSizes.{unit-size, exit-size}
use Rattle.emit_limits.proofs.PieceSizes.{warm-size}
use Rattle.emit_limits.proofs.Totals.{total, total-le, total-plus, total-append, total-none, one-of-total, code-total, weight-total, units-total}
use Rattle.emit_limits.proofs.OwnWords.{own_count, own-some, own-within, own-alone}

-- ---- the opening

nops-size : (n : ℕ) → size (replicate n (Does Nop)) ≡ n
nops-size zero = refl
nops-size (suc n) = omega (arith, nops-size n)

opening-size : (first : ℕ) → size (opening first) ≤ 18
opening-size first =
    let nops = (3 * size (index_code first) + 3) % 4 in
    omega (arith, size-append (padding (size (index_code first))) (index_code first), nops-size nops, word-bytes first)

-- ---- what a word gives to the code of its piece, and takes alone

branch-exit-small : (i : Inst) → branch_exit_bytes i ≤ 17
branch-exit-small (inst.BranchSign name rs imm) = omega arith
branch-exit-small (inst.BranchEqual name rs rt imm) = omega arith
branch-exit-small (inst.BranchZero name rs imm) = omega arith
branch-exit-small (inst.Jump name index) = omega arith
branch-exit-small _ = omega arith

exit-small : (unit : Unit) → exit_bytes unit ≤ 17
exit-small (Plain i) = omega arith
exit-small (Branch i slot) = branch-exit-small i
exit-small (SlotMissing i) = omega arith
exit-small (SlotIsBranch i word) = omega arith
exit-small Call = omega arith
exit-small (Trap kind value) = omega arith

abbrev alone_bytes : Unit → ℕ
alone_bytes unit = unit_bytes unit + exit_bytes unit

abbrev front_bytes : Bool → ℕ
front_bytes true = guard_bytes
front_bytes false = 0

front-size : (metered : Bool) (unit : Unit) (at : ℕ) → size (front_of metered unit at) ≤ front_bytes metered
front-size true unit at = guard-bytes unit at
front-size false unit at = omega arith

abbrev inside_bytes : Unit → ℕ
inside_bytes unit = unit_bytes unit + register_bytes unit

abbrev share : Unit → ℕ
share unit = inside_bytes unit + exit_bytes unit

parts-weigh : (metered : Bool) (unit : Unit) → share unit + (front_bytes metered + alone_bytes unit) ≤ weight_of metered unit
parts-weigh true unit = omega arith
parts-weigh false unit = omega arith

module _ (units : List Unit) (leads : ℕ → Bool) (span : SpanWords) where
  abbrev over : (Unit → ℕ) → ℕ → ℕ
  over g k = g (unit_at units k)

  abbrev warm_bytes : ℕ → ℕ
  warm_bytes k = if begins leads span k then size (warm_part units leads span k) else 0

  abbrev cold_bytes : ℕ → ℕ
  cold_bytes k = if is_inner leads span k then size (cold_part units leads span k) else 0

  -- ---- a word alone

  abbrev cold_share : ℕ → ℕ
  cold_share k = front_bytes span.metered + over alone_bytes k

  cold-size : (k : ℕ) → cold_bytes k ≤ cold_share k
  cold-size k = by_test (is_inner leads span k)
    where
      by_test : (b : Bool) → (if b then size (cold_part units leads span k) else 0) ≤ cold_share k
      by_test true =
          let front = front_of span.metered (unit_at units k) (address span k) in
          let code = unit_code 0 (unit_at units k) (address span k) in
          let behind = next_such (is_inner leads span) span k in
          omega (
            arith,
            size-append front (code ++ exit_of units span behind k),
            size-append code (exit_of units span behind k),
            front-size span.metered (unit_at units k) (address span k),
            unit-size 0 (unit_at units k) (address span k),
            exit-size (extent span) behind (unit_at units k) (address span k),
          )
      by_test false = omega arith

  -- ---- a piece

  abbrev own : ℕ → List Unit
  own k = piece_units units (piece_at units leads span k)

  own-length : (k : ℕ) → length (own k) ≡ min (own_count units leads span k) (length units - k)
  own-length k =
      length-take (own_count units leads span k) (drop k units) ∙ ap (λ n. min (own_count units leads span k) n) (length-drop k units)

  -- the way from its last unit; of words that are not there each counts as a call
  last-size : (k : ℕ) → k < span.end
      → sum_by inside_bytes (own k) + over exit_bytes (k + length (own k) - 1) ≤ total (over share) k (own_count units leads span k)
  last-size k less =
      let n = own_count units leads span k in
      let some = own-some units leads span k less in
      elim (cases_lt k (length units)) [
        | inl within ↦
            omega (
              arith,
              units-total inside_bytes units k n,
              total-plus (over inside_bytes) (over exit_bytes) k n,
              one-of-total (over exit_bytes) k n (k + length (own k) - 1) (omega (arith, own-length k, some, within))
                  (omega (arith, own-length k, some, within)),
            )
        | inr past ↦
            let none : sum_by inside_bytes (drop k units) ≡ 0 = ap (sum_by inside_bytes) (drop_all k units past) in
            let call : over share k ≡ 68 = ap share (get_or_past units k Call past) in
            omega (
              arith,
              none,
              sum_by-take-le inside_bytes (drop k units) n,
              exit-small (unit_at units (k + length (own k) - 1)),
              call,
              one-of-total (over share) k n k (omega arith) (omega (arith, some)),
            )
      ]

  warm-part-size : (k : ℕ) → k < span.end → size (warm_part units leads span k) ≤ total (over share) k (own_count units leads span k)
  warm-part-size k less =
      let code = warm_code (own k) (address span k) in
      let behind = next_such (begins leads span) span k in
      let last = k + length (own k) - 1 in
      omega (
        arith,
        size-append code (exit_of units span behind last),
        warm-size (own k) (address span k),
        exit-size (extent span) behind (unit_at units last) (address span last),
        last-size k less,
      )

  -- ---- all pieces

  pieces-fit : (fuel m k : ℕ) → m ≤ fuel → m ≡ span.end - k → span.first ≤ k → total warm_bytes k m ≤ total (over share) k m
  pieces-fit fuel zero k few rest first = omega arith
  pieces-fit zero (suc m) k few rest first = absurd (omega arith)
  pieces-fit (suc fuel) (suc m) k few rest first =
      elim (cases_Bool (begins leads span k)) [
        | inl is ↦
            let n = own_count units leads span k in
            let here : warm_bytes k ≡ size (warm_part units leads span k) = ap (λ b. if b then size (warm_part units leads span k) else 0) is in
            let some = own-some units leads span k (omega (arith, rest)) in
            let within = own-within units leads span k in
            let inside : total warm_bytes (k + 1) (n - 1) ≡ 0 = total-none warm_bytes (k + 1) (n - 1) (λ j from below.
            ap (λ b. if b then size (warm_part units leads span j) else 0)
            (own-alone units leads span k j first (omega arith) (omega (arith, some, below)))) in
            let parts : m ≡ n - 1 + (suc m - n) = omega (arith, some, within, rest) in
            let all : suc m ≡ n + (suc m - n) = omega (arith, some, within, rest) in
            let warm = ap (total warm_bytes (k + 1)) parts ∙ total-append warm_bytes (k + 1) (n - 1) (suc m - n) (k + n) (omega (arith, some)) in
            let shares = ap (total (over share) k) all ∙ total-append (over share) k n (suc m - n) (k + n) refl in
            omega (
              arith,
              here,
              inside,
              warm,
              shares,
              warm-part-size k (omega (arith, rest)),
              pieces-fit fuel (suc m - n) (k + n) (omega (arith, some, few)) (omega (arith, rest)) (omega (arith, first)),
            )
        | inr none ↦
            let here : warm_bytes k ≡ 0 = ap (λ b. if b then size (warm_part units leads span k) else 0) none in
            omega (arith, here, pieces-fit fuel m (k + 1) (omega (arith, few)) (omega (arith, rest)) (omega (arith, first)))
      ]

-- ---- all of it

pub span-fits : (units : List Unit) (leads : ℕ → Bool) (span : SpanWords)
    → size (span_code units leads span) ≤ span_weight (map (λ k. weight_of span.metered (unit_at units k)) (all_words span))
unfolding span_weight
span-fits units leads span =
    let first = span.first in
    let m = span.end - span.first in
    let shares = over units leads span share in
    let alone = cold_share units leads span in
    let weights = over units leads span (weight_of span.metered) in
    omega (
      arith,
      span-size units leads span,
      opening-size (address span first),
      code-total (warm_part units leads span) (begins leads span) first m,
      code-total (cold_part units leads span) (is_inner leads span) first m,
      pieces-fit units leads span m m first (omega arith) refl (omega arith),
      total-le (cold_bytes units leads span) alone first m (cold-size units leads span),
      total-plus shares alone first m,
      total-le (λ k. shares k + alone k) weights first m (λ k. parts-weigh span.metered (unit_at units k)),
      weight-total weights first m,
    )
