-- The first operand, and those behind the first comma.
use Rattle.std.proofs.Common.{◌≡◌, ℕ, Bool, true, false, cond, List, [], ◌∷◌, length, suc, arith, refl, ap, ◌∙◌}
use Rattle.std.specs.Prelude.{◌==◌, map}
use Rattle.std.specs.List.{slice_split, onto_first}
use Rattle.asm_lines.specs.Lexical.{before_byte, from, lines_of_text, operand_texts, trimmed_line}
use Rattle.asm_lines.specs.Cuts.{behind, lines_behind, operands_behind}

-- the parts behind the byte that ends the first one
abbrev pub parts_behind : (ℕ → Bool) → List ℕ → List (List ℕ)
parts_behind p [] = []
parts_behind p (b ∷ bs) = slice_split p bs

pub split_first_part : (p : ℕ → Bool) (bs : List ℕ) → slice_split p bs ≡ before_byte p bs ∷ parts_behind p (from p bs)
split_first_part p [] = refl
split_first_part p (b ∷ bs) =
    elim (p b) as (λ t. cond t ([] ∷ slice_split p bs) (onto_first b (slice_split p bs))
    ≡ cond t [] (b ∷ before_byte p bs) ∷ parts_behind p (cond t (b ∷ bs) (from p bs)))
    [ true ↦ refl | false ↦ ap (λ parts. onto_first b parts) (split_first_part p bs) ]

-- the first line stands before the first line feed
pub first_line : (text : List ℕ)
    → lines_of_text text ≡ before_byte (λ b. b == 10) text ∷ lines_behind (behind (from (λ b. b == 10) text))
first_line text = split_first_part (λ b. b == 10) text ∙ ap (λ parts. before_byte (λ b. b == 10) text ∷ parts) (lines_of_behind (from (λ b. b == 10) text))
  where
    lines_of_behind : (bs : List ℕ) → parts_behind (λ b. b == 10) bs ≡ lines_behind (behind bs)
    lines_of_behind [] = refl
    lines_of_behind (b ∷ bs) = refl

-- the first operand stands before the first comma
pub first_operand : (rest : List ℕ)
    → operand_texts rest
    ≡ trimmed_line 32 (before_byte (λ b. b == 44) rest) ∷ operands_behind (behind (from (λ b. b == 44) rest))
first_operand rest =
    ap (λ parts. map (trimmed_line 32) parts) (split_first_part (λ b. b == 44) rest)
    ∙ ap (λ parts. trimmed_line 32 (before_byte (λ b. b == 44) rest) ∷ parts) (operands_of_behind (from (λ b. b == 44) rest))
  where
    operands_of_behind : (bs : List ℕ) → map (trimmed_line 32) (parts_behind (λ b. b == 44) bs) ≡ operands_behind (behind bs)
    operands_of_behind [] = refl
    operands_of_behind (b ∷ bs) = refl

-- where a comma stands, there is more than one operand
pub not_one : (first rest : List ℕ) → (length (first ∷ operand_texts rest) == 1) ≡ false
not_one first rest = rw (first_operand rest) (grind arith)

pub one_more : (n : ℕ) (first : List ℕ) (texts : List (List ℕ)) → (length (first ∷ texts) == suc n) ≡ (length texts == n)
one_more n first texts = grind arith
