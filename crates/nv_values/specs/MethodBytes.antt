-- How many bytes the code of a method may have.
use Rattle.std.specs.Prelude.{ℕ, ◌≤◌}

abbrev pub least_method_bytes : ℕ
least_method_bytes = 4096

-- that of any method (JVM Specification, 4.7.3)
abbrev pub most_method_bytes : ℕ
most_method_bytes = 65535

abbrev pub AreMethodBytes : ℕ → Type 0
AreMethodBytes n = (least_method_bytes ≤ n) × (n ≤ most_method_bytes)
