-- The values of operands as the program keeps them: numbers beside each other.
use Rattle.std.specs.Prelude.{ℕ, min, List, [], ◌∷◌, Result, Ok, Err}
use Rattle.mips_definition.specs.declared.inst.Inst.{Inst}
use Rattle.mips_decode.specs.Encoding.{word_of}

-- both values, or the lower kind
abbrev pub both_of : {A B : Type 0} → Result A ℕ → Result B ℕ → Result (A × B) ℕ
both_of (Ok x) (Ok y) = Ok (x, y)
both_of (Ok x) (Err k) = Err k
both_of (Err k) (Ok y) = Err k
both_of (Err j) (Err k) = Err (min j k)

abbrev pub list_of_one : Result ℕ ℕ → Result (List ℕ) ℕ
list_of_one (Ok x) = Ok (x ∷ [])
list_of_one (Err k) = Err k

abbrev pub list_of_two : Result (ℕ × ℕ) ℕ → Result (List ℕ) ℕ
list_of_two (Ok v) = Ok (v.0 ∷ v.1 ∷ [])
list_of_two (Err k) = Err k

abbrev pub list_of_three : Result (ℕ × (ℕ × ℕ)) ℕ → Result (List ℕ) ℕ
list_of_three (Ok v) = Ok (v.0 ∷ v.1.0 ∷ v.1.1 ∷ [])
list_of_three (Err k) = Err k

-- the word of an instruction, or a kind
abbrev pub word_or_kind : Result Inst ℕ → Result ℕ ℕ
word_or_kind (Ok i) = Ok (word_of i)
word_or_kind (Err k) = Err k
