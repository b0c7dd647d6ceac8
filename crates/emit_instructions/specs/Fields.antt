-- The fields of the main class that stand behind those of Matches: the address of the last LL, and whether it is linked, as 1 or 0.
use Rattle.std.specs.Prelude.{ℕ}

abbrev pub link_field : ℕ
link_field = 36

abbrev pub linked_field : ℕ
linked_field = 37
