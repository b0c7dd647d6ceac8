-- How many bytes make a pipe full.
use Rattle.std.specs.Prelude.{ℕ, ◌≤◌}

abbrev pub least_pipe_bytes : ℕ
least_pipe_bytes = 1

abbrev pub most_pipe_bytes : ℕ
most_pipe_bytes = 65536

abbrev pub ArePipeBytes : ℕ → Type 0
ArePipeBytes n = (least_pipe_bytes ≤ n) × (n ≤ most_pipe_bytes)
