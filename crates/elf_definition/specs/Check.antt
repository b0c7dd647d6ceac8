-- Checks of a file, made in a fixed order. A check that fails says which it is, and at which headers it failed.
use Rattle.std.specs.Prelude.{ℕ, zero, suc, Bool, nat_lt, max, min, if◌then◌else◌, not, ◌==◌, List, [], ◌∷◌, Option, Some, None, option_map, bit_and}
use Rattle.std.specs.Option.{option_or}
use Rattle.elf_definition.specs.declared.elf_fault.ElfFault.{ElfFault}

-- a check that names no header, given whether it fails
abbrev pub fails : ℕ → Bool → Option ElfFault
fails kind failed = if failed then Some (record { kind = kind; i = 0; j = 0 }) else None

-- a check that names the first header or page at which it fails, if there is one
abbrev pub fails_at : ℕ → Option ℕ → Option ElfFault
fails_at kind place = option_map (λ i. record { kind = kind; i = i; j = 0 }) place

-- the first check of a list that fails
abbrev pub first_fault : List (Option ElfFault) → Option ElfFault
first_fault [] = None
first_fault (check ∷ checks) = option_or check (first_fault checks)

-- the least number below n that passes a test
unfoldable pub least_below : (ℕ → Bool) → ℕ → Option ℕ
least_below test zero = None
least_below test (suc n) = option_or (least_below test n) (if test n then Some n else None)

-- a flag is set in a word of flags
abbrev pub has_flag : ℕ → ℕ → Bool
has_flag flags flag = not (bit_and flags flag == 0)

-- two stretches of addresses, each given by its first address and the first address behind it, have an address in common
abbrev pub meet : ℕ → ℕ → ℕ → ℕ → Bool
meet first behind first' behind' = nat_lt (max first first') (min behind behind')
