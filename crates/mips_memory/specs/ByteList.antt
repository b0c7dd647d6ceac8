-- A memory whose bytes are those of a list, each at its place.
use Rattle.std.specs.Prelude.{ℕ, true, List, slice_index, Some}
use Rattle.run_definition.specs.Memory.{Memory}

abbrev pub memory_in : List ℕ → Memory
memory_in bytes = record { byte = λ a. Some (slice_index bytes a); writable = λ a. true }
