-- Numbers in a range, of which both ends belong to it.
use Rattle.std.specs.Prelude.{ℕ, Bool, ◌&&◌, if◌then◌else◌, Option, Some, None, nat_le}

abbrev pub lies_in : ℕ → ℕ → ℕ → Bool
lies_in least most n = nat_le least n && nat_le n most

-- the number, where it is in the range
abbrev pub in_range : ℕ → ℕ → ℕ → Option ℕ
in_range least most n = if lies_in least most n then Some n else None
