-- A memory of one word: its lanes are the bytes at 0 to 3.
use Rattle.std.specs.Prelude.{ℕ, true, Some}
use Rattle.run_definition.specs.Memory.{Memory}
use Rattle.run_definition.specs.Words.{lane_of_word}

abbrev pub one_word : ℕ → Memory
one_word w = record { byte = λ a. Some (lane_of_word w a); writable = λ a. true }
