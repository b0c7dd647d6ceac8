-- System V ABI, "Object Files", "Data Representation": fields of two and of four bytes, the most significant byte first, one
-- after the other.
use Rattle.std.specs.Prelude.{ℕ, List, flat_map}
use Rattle.run_definition.specs.Words.{bytes_of_half, bytes_of_word}

abbrev pub halves : List ℕ → List ℕ
halves fields = flat_map bytes_of_half fields

abbrev pub words : List ℕ → List ℕ
words fields = flat_map bytes_of_word fields
