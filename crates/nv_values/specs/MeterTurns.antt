-- How many instructions of a guest its classes may make by their meter.
use Rattle.std.specs.Prelude.{ℕ, ◌≤◌}

abbrev pub least_meter_turns : ℕ
least_meter_turns = 0

-- that of an int (JVM Specification, 2.3.1)
abbrev pub most_meter_turns : ℕ
most_meter_turns = 2147483647

abbrev pub AreMeterTurns : ℕ → Type 0
AreMeterTurns n = (least_meter_turns ≤ n) × (n ≤ most_meter_turns)
