-- Counts of faults. A count is kept in 64 bits and stands still at its greatest value.
use Rattle.std.specs.Prelude.{◌≡◌, ℕ, ◌+◌, ◌-◌, ◌^◌, ◌≤◌, min, Bool, true, false, IsTrue, Result, Ok, Err}
use Rattle.nv_outside.specs.declared.shelf_error.ShelfError.{ShelfError}
use Rattle.nv_outside.specs.declared.shelf_error.ShelfError.TheVariants.{Failed, NoMemory}

-- one more, where there is room
abbrev pub one_more : ℕ → ℕ
one_more n = min (n + 1) (2 ^ 64 - 1)

-- A count rose by one, or stands at its greatest value.
pub record Rises (before now : ℕ) : Type 0 where
  pub never_falls : before ≤ now
  pub rose : now ≡ one_more before

-- What a call does to the count of its object: it rises by one where the call failed, and is as
-- before where it did not.
pub record CountsFailure (failed : Bool) (before now : ℕ) : Type 0 where
  pub never_falls : before ≤ now
  pub rises : IsTrue failed → now ≡ one_more before
  pub stays : failed ≡ false → now ≡ before

-- a call of a shelf failed: want of memory is no failure
abbrev pub shelf_failed : {A : Type 0} → Result A ShelfError → Bool
shelf_failed (Ok a) = false
shelf_failed (Err Failed) = true
shelf_failed (Err NoMemory) = false
