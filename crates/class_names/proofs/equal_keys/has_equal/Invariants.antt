use Rattle.std.proofs.Common.{◌≡◌, ◌++◌, false, List, length}
use Rattle.std.specs.List.{list_any}
use Rattle.class_names.specs.declared.key.Key.{Key}
use Rattle.class_names.specs.Keys.{same_key, has_equal_keys}
use Rattle.class_names.proofs.equal_keys.has_equal.Given as goal

abbrev pub invariant-loop-key : goal.invariant-loop-key
invariant-loop-key l = record {
  done : List Key;
  all : l.rest ++ done ≡ l.fn.keys;
  apart : has_equal_keys done ≡ false;
  seen : (k : Key) → list_any (same_key k) l.seen.keys ≡ list_any (same_key k) done;
}

abbrev pub decreases-loop-key : goal.decreases-loop-key
decreases-loop-key l = length l.rest
