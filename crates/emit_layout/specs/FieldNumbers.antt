-- The numbers of the main class's fields, and how many pages its tables have.
use Rattle.std.specs.Prelude.{ℕ, ◌-◌}

-- r1 to r31 are in fields 0 to 30
abbrev pub register_field : ℕ → ℕ
register_field r = r - 1

abbrev pub hi_field : ℕ
hi_field = 31

abbrev pub lo_field : ℕ
lo_field = 32

abbrev pub pc_field : ℕ
pc_field = 33

abbrev pub readable_field : ℕ
readable_field = 34

abbrev pub writable_field : ℕ
writable_field = 35

-- the pages below address 80000000
abbrev pub page_count : ℕ
page_count = 524288
