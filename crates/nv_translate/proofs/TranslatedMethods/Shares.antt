-- The shares of the words of a range.
use Rattle.std.proofs.Common.{◌≡◌, ℕ, ◌+◌, ◌-◌, ◌*◌, ◌/◌, ◌%◌, ◌<◌, ◌≤◌, arith}
use Rattle.std.specs.Prelude.{min}
use Rattle.method_splitter.specs.Shares.{share_count}

pub share-begins : (w k : ℕ) → k < share_count 6144 w → 6144 * k < w
share-begins w k below = omega arith

pub share-ends : (w k : ℕ) → k + 1 ≡ share_count 6144 w → w ≤ 6144 * (k + 1)
share-ends w k last = omega arith

pub share-more : (w k : ℕ) → k + 1 < share_count 6144 w → 6144 * (k + 1) < w
share-more w k more = omega arith

pub some-shares : (w : ℕ) → 1 ≤ w → 1 ≤ share_count 6144 w
some-shares w some = omega arith

pub few-shares : (w : ℕ) → 6144 * share_count 6144 w ≤ w + 6144
few-shares w = omega arith

-- the share that has a number
pub share-has : (w j : ℕ) → j < w → j / 6144 < share_count 6144 w
share-has w j below = omega arith

pub share-within : (w j : ℕ) → j < w → j % 6144 < min 6144 (w - 6144 * (j / 6144))
share-within w j below = omega arith
