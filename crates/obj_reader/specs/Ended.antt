-- Symbols beside the length up to which names end.
use Rattle.std.specs.Prelude.{◌≡◌, ℕ, Bool, not, ◌&&◌, ◌||◌, nat_lt, nat_le, List}
use Rattle.obj_reader.specs.declared.symbol.Symbol.{Symbol}
use Rattle.obj_reader.specs.Symbols.{binding, is_ended}

-- a name ends exactly where it begins before this length
abbrev pub EndsWithin : List ℕ → ℕ → Type 0
EndsWithin strings len = (at : ℕ) → is_ended strings at ≡ nat_lt at len

-- an entry is wrong, where names end that begin before this length
abbrev pub is_wrong_within : ℕ → ℕ → Symbol → Bool
is_wrong_within len count s =
    not (nat_lt s.st_name len)
    || nat_lt 2 (binding s)
    || nat_lt s.st_shndx 0xFF00 && nat_le count s.st_shndx
