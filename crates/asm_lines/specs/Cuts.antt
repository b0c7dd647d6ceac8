-- What stands behind the first part of a text, where something does.
use Rattle.std.specs.Prelude.{ℕ, List, [], ◌∷◌, Option, Some, None, Result, Ok, Err}
use Rattle.asm_lines.specs.Lexical.{lines_of_text, operand_texts}

-- the bytes behind the first of some
abbrev pub behind : List ℕ → Option (List ℕ)
behind [] = None
behind (b ∷ bs) = Some bs

abbrev pub lines_behind : Option (List ℕ) → List (List ℕ)
lines_behind None = []
lines_behind (Some text) = lines_of_text text

abbrev pub operands_behind : Option (List ℕ) → List (List ℕ)
operands_behind None = []
operands_behind (Some rest) = operand_texts rest

-- two values in their order
abbrev pub pair_list : Result (ℕ × ℕ) ℕ → Result (List ℕ) ℕ
pair_list (Ok p) = Ok (p.0 ∷ p.1 ∷ [])
pair_list (Err k) = Err k
