-- The tests of names, over references to them.
use Rattle.std.proofs.Common.{◌≡◌, ◌∙◌, ◌<◌, ◌≤◌, ◌&&◌, ℕ, Bool, true, false, not, refl, sym, ap, ap₂, arith, List, ◌∷◌, length, bytes_eq, nat_le}
use Rattle.std.specs.Borrow.{Bor}
use Rattle.std.specs.List.{list_all, list_any}
use Rattle.std.proofs.lemmas.List.{length-map}
use Rattle.std.proofs.lemmas.List.Folds.{list_all-map}
use Rattle.std.proofs.lemmas.Bool.Decides.{nat_tests}
use Rattle.nv_values.specs.Names.{Text}
use Rattle.command_forms.specs.Answers.{shown}
use Rattle.command_words.specs.Values.{all_different, are_file_names, is_file_name}
use Rattle.command_forms.proofs.FormWalk.{and_no}
use Rattle.clap.proofs.WalkLemmas.{list_any-map}

step : (n : Bor Text) (others : List (Bor Text)) (b : Bool) → list_any (λ m. bytes_eq m.now n.now) others ≡ b
    → all_different (shown (n ∷ others)) ≡ (not b && all_different (shown others))
step n others b e = ap (λ t. not t && all_different (shown others)) (sym (list_any-map (λ (m : Text). bytes_eq m n.now) (λ s. s.now) others) ∙ e)

pub twice : (names others : List (Bor Text)) (n : Bor Text) → names ≡ n ∷ others → list_any (λ m. bytes_eq m.now n.now) others ≡ true → all_different (shown names) ≡ false
twice names others n is e = ap (λ ns. all_different (shown ns)) is ∙ step n others true e

pub once : (names others : List (Bor Text)) (n : Bor Text) → names ≡ n ∷ others → list_any (λ m. bytes_eq m.now n.now) others ≡ false
    → all_different (shown names) ≡ all_different (shown others)
once names others n is e = ap (λ ns. all_different (shown ns)) is ∙ step n others false e

over : (n : ℕ) → 64 < n → nat_le n 64 ≡ false
over n h = grind (arith, nat_tests)

within : (n : ℕ) → n ≤ 64 → nat_le n 64 ≡ true
within n h = grind (arith, nat_tests)

are_names : (names : List (Bor Text)) (a b : Bool) → nat_le (length names) 64 ≡ a → list_all (λ n. is_file_name n.now) names ≡ b
    → are_file_names (shown names) ≡ (a && b && all_different (shown names))
are_names names a b few good =
    let same : nat_le (length (shown names)) 64 ≡ nat_le (length names) 64 = simp length-map in
    ap₂ (λ s t. s && t && all_different (shown names)) (same ∙ few)
    (list_all-map is_file_name (λ s. s.now) names ∙ good)

pub too_many : (names : List (Bor Text)) → 64 < length names → are_file_names (shown names) ≡ false
too_many names many = are_names names false _ (over (length names) many) refl

pub some_bad : (names : List (Bor Text)) → list_all (λ n. is_file_name n.now) names ≡ false → are_file_names (shown names) ≡ false
some_bad names bad = are_names names _ false refl bad ∙ ap (λ b. b && all_different (shown names)) (and_no (nat_le (length names) 64))

pub all_good : (names : List (Bor Text)) → length names ≤ 64 → list_all (λ n. is_file_name n.now) names ≡ true → are_file_names (shown names) ≡ all_different (shown names)
all_good names few good = are_names names true true (within (length names) few) good
