-- The words that a text spells, as the class machine reads them.
use Rattle.std.specs.Prelude.{ℕ, ◌+◌, List, slice_index}
use Rattle.std.specs.List.{All}
use Rattle.run_definition.specs.Words.{IsWord}
use Rattle.jvm_definition.specs.declared.int_arithmetic.IntArithmetic.TheVariants.{Iadd}
use Rattle.jvm_definition.specs.declared.int_shift.IntShift.TheVariants.{Ishl}
use Rattle.jvm_definition.specs.Words.{int_result, int_shifted}

abbrev pub AreWords : List ℕ → Type 0
AreWords given = All IsWord given

-- an int with the 7 bits of a character behind its own
abbrev pub joined : ℕ → ℕ → ℕ
joined bits character = int_result Iadd (int_shifted Ishl bits 7) character

-- the int of five characters
abbrev pub int_of_five : ℕ → ℕ → ℕ → ℕ → ℕ → ℕ
int_of_five a b c d e = joined (joined (joined (joined a b) c) d) e

-- the int of the five characters at a place
abbrev pub int_at : List ℕ → ℕ → ℕ
int_at text at =
    int_of_five (slice_index text at) (slice_index text (at + 1)) (slice_index text (at + 2))
    (slice_index text (at + 3)) (slice_index text (at + 4))
