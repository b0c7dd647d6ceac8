-- Lines that are labels, and lines that are not.
use Rattle.std.proofs.Common.{◌≡◌, ℕ, ◌++◌, true, false, cond, ◌&&◌, List, [], ◌∷◌, refl, ap, ◌∙◌, Some, None}
use Rattle.std.specs.Prelude.{◌==◌}
use Rattle.asm_lines.specs.Lexical.{is_name, first_word, after_word}
use Rattle.asm_lines.proofs.LexicalLemmas.{name_before_end}
use Rattle.asm_lines.specs.Lines.{Label, label_of, by_label, by_word, bare_line_is}

bare_line_end : (xs : List ℕ) (x : ℕ) → bare_line_is (xs ++ x ∷ []) ≡ by_label (xs ++ x ∷ []) (label_of (xs ++ x ∷ []))
bare_line_end [] x = refl
bare_line_end (y ∷ xs) x = refl

label_of_end : (xs : List ℕ) (x : ℕ) → label_of (xs ++ x ∷ []) ≡ cond (x == 58 && is_name xs) (Some xs) None
label_of_end xs x = name_before_end 58 xs x

-- a name and a colon are a label
pub label_end : (xs : List ℕ) (x : ℕ) → (x == 58 && is_name xs) ≡ true → bare_line_is (xs ++ x ∷ []) ≡ Label xs
label_end xs x h =
    bare_line_end xs x ∙ ap (λ o. by_label (xs ++ x ∷ []) o) (label_of_end xs x ∙ ap (λ t. cond t (Some xs) None) h)

-- any other line begins with a word
pub no_label_end : (xs : List ℕ) (x : ℕ) → (x == 58 && is_name xs) ≡ false
    → bare_line_is (xs ++ x ∷ []) ≡ by_word (first_word (xs ++ x ∷ [])) (after_word (xs ++ x ∷ []))
no_label_end xs x h =
    bare_line_end xs x ∙ ap (λ o. by_label (xs ++ x ∷ []) o) (label_of_end xs x ∙ ap (λ t. cond t (Some xs) None) h)
