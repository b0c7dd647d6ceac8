-- The fields of the main class, by their numbers.
use Rattle.std.specs.Prelude.{ℕ, ◌+◌, ◌==◌, ◌||◌, nat_lt, if◌then◌else◌, List, ◌++◌, codes, decimal}

abbrev pub special_name : ℕ → List ℕ
special_name field =
    if field == 31 then codes "hi"
    else if field == 32 then codes "lo"
    else if field == 33 then codes "pc"
    else if field == 34 then codes "rd"
    else if field == 35 then codes "wr"
    else if field == 36 then codes "ll"
    else if field == 37 then codes "lf"
    else codes "left"

-- registers 1 to 31, and the others
abbrev pub field_name : ℕ → List ℕ
field_name field = if nat_lt field 31 then codes "r" ++ decimal (field + 1) else special_name field

-- ints, but for the two tables of pages
abbrev pub field_descriptor : ℕ → List ℕ
field_descriptor field = if field == 34 || field == 35 then codes "[[I" else codes "I"
