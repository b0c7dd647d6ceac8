-- The last byte of an operand, and the last opening in it.
use Rattle.std.proofs.Common.{◌≡◌, ℕ, ◌+◌, ◌++◌, Bool, true, false, cond, List, [], ◌∷◌, length, arith, refl, ap, ◌∙◌, Some, Option, Err}
use Rattle.std.specs.Prelude.{◌==◌}
use Rattle.asm_lines.proofs.LexicalLemmas.{take_end, index_end}
use Rattle.asm_lines.specs.Operands.{LabelList, around, in_memory, last_opening, later}

later_more : (here t : Bool) (n : ℕ) (o : Option ℕ) → later here (cond t (Some n) o) ≡ cond t (Some (n + 1)) (later here o)
later_more here true n o = refl
later_more here false n o = refl

pub last_opening_end : (xs : List ℕ) (x : ℕ) → last_opening (xs ++ x ∷ []) ≡ cond (x == 40) (Some (length xs)) (last_opening xs)
last_opening_end [] x = refl
last_opening_end (y ∷ xs) x =
    ap (λ o. later (y == 40) o) (last_opening_end xs x) ∙ later_more (y == 40) (x == 40) (length xs) (last_opening xs)
    ∙ ap (λ n. cond (x == 40) (Some n) (last_opening (y ∷ xs))) (omega arith)

pub in_memory_end : (labels : LabelList) (xs : List ℕ) (x : ℕ)
    → in_memory labels (xs ++ x ∷ []) ≡ cond (x == 41) (around labels xs (last_opening xs)) (Err 2)
in_memory_end labels xs x = simp (take_end xs x, index_end xs x) refl
