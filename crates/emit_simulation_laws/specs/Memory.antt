-- The guest's memory with a word changed.
use Rattle.std.specs.Prelude.{ℕ, ◌/◌, ◌%◌, ◌==◌, if◌then◌else◌, Some}
use Rattle.run_definition.specs.Words.{lane_of_word}
use Rattle.run_definition.specs.Memory.{Memory}

-- word k stands at address 4 k
abbrev pub with_word_at : Memory → ℕ → ℕ → Memory
with_word_at m k v = record m {
  byte = λ x. if x / 4 == k then Some (lane_of_word v (x % 4))
      else m.byte x;
}
