-- The answers by which a call is refused, as docs/CALLS.md numbers them.
use Rattle.std.specs.Prelude.{ℕ, ℤ, neg_ℤ, pos}

abbrev pub error : ℕ → ℤ
error n = neg_ℤ (pos n)

-- there is no file of that name
abbrev pub no_entry : ℤ
no_entry = error 2

-- the descriptor is not in use, or not for this
abbrev pub bad_descriptor : ℤ
bad_descriptor = error 9

abbrev pub no_memory : ℤ
no_memory = error 12

-- the bytes cannot be read or written there
abbrev pub bad_address : ℤ
bad_address = error 14

-- there is a file of that name
abbrev pub present : ℤ
present = error 17

abbrev pub invalid : ℤ
invalid = error 22

-- all descriptors are in use
abbrev pub too_many_open : ℤ
too_many_open = error 24

-- the file would be too large
abbrev pub too_large : ℤ
too_large = error 27

-- no blocks or no nodes are left
abbrev pub no_space : ℤ
no_space = error 28

-- the console has no places
abbrev pub no_seek : ℤ
no_seek = error 29

-- there is no such call
abbrev pub no_call : ℤ
no_call = error 88
