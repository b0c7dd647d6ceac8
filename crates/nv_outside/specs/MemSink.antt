use Rattle.std.specs.Prelude.{ℕ, ◌-◌, min, Bool, ◌&&◌, ◌==◌, nat_lt, List, length}
use Rattle.nv_outside.specs.Script.{Script}

-- a sink in memory: the bytes taken, how many it can take in all, and its calls
pub record MemOutput : Type 0 where
  pub taken : List ℕ
  pub room : ℕ
  pub calls : Script

-- how much of a piece it takes
abbrev pub taken_of : MemOutput → List ℕ → ℕ
taken_of s piece = min (length piece) (s.room - length s.taken)

-- its room is used up, and the piece is not empty
abbrev pub is_full : MemOutput → List ℕ → Bool
is_full s piece = nat_lt 0 (length piece) && taken_of s piece == 0
