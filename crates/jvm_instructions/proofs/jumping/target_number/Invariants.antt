use Rattle.std.proofs.Common.{◌-◌, ◌≡◌, ℕ, ◌<◌, ◌≤◌, length, get_or, true}
use Rattle.std.specs.Prelude.{int_lt}
use Rattle.jvm_definition.specs.declared.pair.Pair.{Pair}
use Rattle.jvm_instructions.proofs.jumping.target_number.Given as goal

abbrev pub invariant-loop-low : goal.invariant-loop-low
invariant-loop-low l = record {
  within : l.high ≤ length l.pairs;
  ordered : l.low ≤ l.high;
  before : (k : ℕ) (d : Pair) → k < l.low → int_lt (get_or l.pairs k d).key l.key ≡ true;
  behind : (k : ℕ) (d : Pair) → l.high ≤ k → k < length l.pairs → int_lt l.key (get_or l.pairs k d).key ≡ true;
}

abbrev pub decreases-loop-low : goal.decreases-loop-low
decreases-loop-low l = l.high - l.low
