-- MIPS psABI, "Relocation": the two halves of an address. An R_MIPS_HI16 goes with the next R_MIPS_LO16 of its section and
-- symbol, by the order of the tables.
use Rattle.std.specs.Prelude.{ℕ, Bool, ◌&&◌, ◌==◌, if◌then◌else◌, List, [], ◌∷◌, Option, Some, None, option_map, is_none}
use Rattle.std.specs.List.{find}
use Rattle.obj_reader.specs.declared.relocation.Relocation.{Relocation}
use Rattle.obj_reader.specs.Relocations.{is_high, is_low, relocation_offset}

-- the lower half of an address of a symbol in a section
abbrev pub is_low_of : ℕ → ℕ → Relocation → Bool
is_low_of section symbol r = is_low r && (r.section == section && r.symbol == symbol)

-- where the lower half that goes with a relocation is, among those behind it
abbrev pub low_of : Relocation → List Relocation → Option ℕ
low_of r later =
    if is_high r then option_map relocation_offset (find (is_low_of r.section r.symbol) later) else None

-- the same of each relocation
abbrev pub lows : List Relocation → List (Option ℕ)
lows [] = []
lows (r ∷ later) = low_of r later ∷ lows later

-- the first upper half that goes with no lower half
abbrev pub first_alone : List Relocation → Option Relocation
first_alone [] = None
first_alone (r ∷ later) =
    if is_high r && is_none (low_of r later) then Some r else first_alone later

-- offsets of lower halves, by section and symbol
abbrev pub LowList : Type 0
LowList = List ((ℕ × ℕ) × ℕ)

abbrev pub low_in : LowList → ℕ → ℕ → Option ℕ
low_in [] section symbol = None
low_in (l ∷ lows) section symbol =
    if section == l.0.0 && symbol == l.0.1 then Some l.1 else low_in lows section symbol
