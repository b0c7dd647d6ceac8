use Rattle.std.proofs.Common.{◌≢◌, ◌+◌, ◌-◌, ◌≤◌, ◌/◌, length, get_or, ap, arith, inl, inr, rules, of_z}
use Rattle.std.specs.Prelude.{ℤ, pos, FitsSigned}
use Rattle.std.specs.Int.{w32}
use Rattle.std.proofs.lemmas.Bool.{cases_lt}
use Rattle.std.proofs.lemmas.Int.{to_z-of_z}
use Rattle.jvm_instructions.proofs.Places.{found_number, missing_number, same_key, not_below, below_other, above_other, before_all, behind_all, middle_within}
use Rattle.jvm_instructions.proofs.jumping.target_number.Goals as goal

pub returns-then-here-key-clause-number : goal.returns-then-here-key-clause-number
returns-then-here-key-clause-number c =
    let m = c.loop-low.low + (c.loop-low.high - c.loop-low.low) / 2 in
    let here : ℤ = (get_or c.args.pairs.now m (record { key = pos 0; target = 0 })).key in
    let fits : FitsSigned w32 here = search rules in
    found_number c.args.pairs.now c.args.key m (record { key = pos 0; target = 0 }) c.requires (middle_within c.loop-low.low c.loop-low.high (length c.args.pairs.now) c.loop-low-test.true c.loop-low.invariant.within) (same_key here c.args.key fits c.ranges.key c.if-here-key.true)

pub loop-low-preserved-then-here-key-2 : goal.loop-low-preserved-then-here-key-2
loop-low-preserved-then-here-key-2 c =
    let m = c.loop-low.low + (c.loop-low.high - c.loop-low.low) / 2 in
    let here : ℤ = (get_or c.args.pairs.now m (record { key = pos 0; target = 0 })).key in
    let fits : FitsSigned w32 here = search rules in
    let key = to_z-of_z w32 c.args.key c.ranges.key in
    let less = simp (to_z-of_z w32 here fits, key) at c.if-here-key-2.true in
    simp key (record {
      within = c.loop-low.invariant.within;
      ordered = omega (arith, c.loop-low-test.true);
      before = before_all c.args.pairs.now m c.args.key (record { key = pos 0; target = 0 }) c.requires (middle_within c.loop-low.low c.loop-low.high (length c.args.pairs.now) c.loop-low-test.true c.loop-low.invariant.within) less;
      behind = simp key at c.loop-low.invariant.behind;
    })

pub loop-low-preserved : goal.loop-low-preserved
loop-low-preserved c =
    let m = c.loop-low.low + (c.loop-low.high - c.loop-low.low) / 2 in
    let here : ℤ = (get_or c.args.pairs.now m (record { key = pos 0; target = 0 })).key in
    let fits : FitsSigned w32 here = search rules in
    let key = to_z-of_z w32 c.args.key c.ranges.key in
    let other : here ≢ c.args.key = λ e. c.if-here-key.false (ap (of_z w32) e) in
    let least = simp (to_z-of_z w32 here fits, key) at c.if-here-key-2.false in
    simp key (record {
      within = omega (arith, middle_within c.loop-low.low c.loop-low.high (length c.args.pairs.now) c.loop-low-test.true c.loop-low.invariant.within);
      ordered = omega arith;
      before = simp key at c.loop-low.invariant.before;
      behind = behind_all c.args.pairs.now m c.args.key (record { key = pos 0; target = 0 }) c.requires (not_below here c.args.key other least);
    })

pub returns-clause-number : goal.returns-clause-number
returns-clause-number c =
    let key = to_z-of_z w32 c.args.key c.ranges.key in
    let before = simp key at c.loop-low.invariant.before in
    let behind = simp key at c.loop-low.invariant.behind in
    missing_number c.args.pairs.now c.args.key (λ i d inside.
    elim (cases_lt i c.loop-low.low) [
      | inl p ↦ below_other (get_or c.args.pairs.now i d).key c.args.key (before i d p)
      | inr p ↦ let h : c.loop-low.high ≤ i = omega (arith, c.loop-low-test.false, p) in above_other (get_or c.args.pairs.now i d).key c.args.key (behind i d h inside)
    ])
