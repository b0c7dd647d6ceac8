-- The objects, as their bytes.
use Rattle.std.specs.Prelude.{ℕ, ◌≤◌, Bool, nat_lt, List, map, length, Vec}

abbrev pub files_of : {Z : Type 0} → List (Vec ℕ Z) → List (List ℕ)
files_of objects = map (λ o. o.items) objects

-- an object has at most 67,108,864 bytes
abbrev pub IsShort : List ℕ → Type 0
IsShort file = length file ≤ 67108864

abbrev pub is_long_file : List ℕ → Bool
is_long_file file = nat_lt 67108864 (length file)

abbrev pub is_long_object : {Z : Type 0} → Vec ℕ Z → Bool
is_long_object object = is_long_file object.items
