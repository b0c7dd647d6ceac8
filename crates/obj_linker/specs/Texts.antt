-- Texts by numbers: two texts are the same where their numbers are.
use Rattle.std.specs.Prelude.{◌≡◌, ℕ, ◌+◌, ◌==◌, nat_eq, Bool, if◌then◌else◌, List, [], ◌∷◌, Some, slice_get}
use Rattle.std.specs.List.{IsDistinct, before_first}
use Rattle.std.specs.Ordering.{on, eq_of_both}
use Rattle.obj_linker.specs.declared.letter.Letter.{Letter}

abbrev pub letter : ℕ → ℕ → Letter
letter byte rest = record { byte = byte; rest = rest }

-- the empty text has the number 0; any other one more than the place of its first byte with the
-- number of the rest
abbrev pub IsNumber : List Letter → ℕ → List ℕ → Type 0
IsNumber letters n [] = n ≡ 0
IsNumber letters n (c ∷ cs) =
    (place : ℕ) × (rest : ℕ) × (n ≡ place + 1)
    × (slice_get letters place ≡ Some (letter c rest)) × IsNumber letters rest cs

abbrev pub same_letter : Letter → Letter → Bool
same_letter = eq_of_both (on (λ l. l.byte) nat_eq) (on (λ l. l.rest) nat_eq)

abbrev pub AreApart : List Letter → Type 0
AreApart letters = IsDistinct same_letter letters

-- each text keeps its number
abbrev pub Keeps : List Letter → List Letter → Type 0
Keeps old new = (n : ℕ) (text : List ℕ) → IsNumber old n text → IsNumber new n text

-- the bytes up to a 00
abbrev pub up_to_zero : List ℕ → List ℕ
up_to_zero bytes = before_first (λ b. b == 0) bytes

-- the number of what begins with a byte and goes on with a text
abbrev pub IsNumberWith : List Letter → List Letter → ℕ → ℕ → ℕ → Type 0
IsNumberWith old new byte rest n = (text : List ℕ) → IsNumber old rest text
    → IsNumber new n (if byte == 0 then [] else byte ∷ text)

-- the texts that begin at the places of some bytes and behind them
abbrev pub texts_within : List ℕ → List (List ℕ)
texts_within [] = [] ∷ []
texts_within (b ∷ bs) = up_to_zero (b ∷ bs) ∷ texts_within bs
