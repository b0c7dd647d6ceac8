-- Numbers of places in the code of a guest.
use Rattle.std.specs.Prelude.{ℕ}

-- where a byte of the guest's memory stands; of a word that is where its first byte stands
abbrev pub Address : Type 0
Address = ℕ

-- which word of a range of code, counted from 0: word k of a range at an address stands 4 * k behind that address
abbrev pub WordIndex : Type 0
WordIndex = ℕ
