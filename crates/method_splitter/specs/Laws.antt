-- What holds of shares.
use Rattle.std.specs.Prelude.{◌≡◌, ℕ, ◌≤◌, List, length}
use Rattle.std.specs.List.{flat_map}
use Rattle.method_splitter.specs.Shares.{shared, shares}

-- each thing is in one share, and the shares follow each other
abbrev pub SharesAreAll : Type 0
SharesAreAll =
    (size : ℕ) (things : List ℕ)
    → 1 ≤ size
    → flat_map (shared things) (shares size (length things)) ≡ things
