use Rattle.std.specs.Prelude.{◌+◌, ◌++◌, ℕ, List, length, take, drop, replicate}

-- the bytes of a block that was just taken
unfoldable pub zeros : List ℕ
zeros = replicate 4096 0

-- bytes of which those from a place on are overwritten
abbrev pub overwritten : List ℕ → ℕ → List ℕ → List ℕ
overwritten bytes at from = take at bytes ++ from ++ drop (at + length from) bytes
