-- What `parse` reads of decimal digits.
use Rattle.std.proofs.Common.{◌≡◌, ◌<◌, ◌≤◌, ◌^◌, ◌&&◌, ℕ, cond, true, false, refl, sym, ap₂, subst, arith, [], ◌∷◌, length, Some, None, ⊎_elim}
use Rattle.std.specs.List.{list_all}
use Rattle.std.specs.Char.{digit_value}
use Rattle.std.specs.Str.Parse.{AllDigits, IsNumeral, digits_value, without_leading_plus}
use Rattle.std.proofs.lemmas.Bool.{cases_lt}
use Rattle.std.proofs.lemmas.Bool.Decides.{nat_tests}
use Rattle.nv_values.specs.Ranges.{lies_in}
use Rattle.nv_values.specs.Names.{Text, is_digit}
use Rattle.command_words.specs.Values.{is_number_text, number_in}
use Rattle.command_forms.proofs.FormWalk.{and_first, and_second}
use Rattle.command_forms.proofs.FormRules.{differs}

digit_bounds : (b : ℕ) → is_digit b ≡ true → (48 ≤ b) × (b ≤ 57)
digit_bounds b e = grind (arith, nat_tests)

digit_small : (b : ℕ) → 48 ≤ b → b ≤ 57 → digit_value b < 10
digit_small b low high = grind (arith, nat_tests)

all_digits : (text : Text) → list_all is_digit text ≡ true → AllDigits 10 text
all_digits [] e = tt
all_digits (b ∷ bs) e =
    let bounds = digit_bounds b (and_first (is_digit b) _ e) in
    (digit_small b bounds.0 bounds.1, all_digits bs (and_second (is_digit b) _ e))

no_plus : (text : Text) → list_all is_digit text ≡ true → without_leading_plus text ≡ text
no_plus [] e = refl
no_plus (b ∷ bs) e =
    let bounds = digit_bounds b (and_first (is_digit b) _ e) in
    rw (differs b 43 (omega (arith, bounds.0))) refl

lies_above : (least most n : ℕ) → most < n → lies_in least most n ≡ false
lies_above least most n above = grind (arith, nat_tests)

length_bounds : (n : ℕ) → lies_in 1 20 n ≡ true → 0 < n
length_bounds n e = grind (arith, nat_tests)

pub number_overflows : (least most : ℕ) (text : Text) → most < 2 ^ 64 → is_number_text text ≡ true
    → (IsNumeral 10 (without_leading_plus text) × (digits_value 10 (without_leading_plus text) < 2 ^ 64) → ⊥) → number_in least most text ≡ None
number_overflows least most text small number fails =
    let digits : list_all is_digit text ≡ true = and_second (lies_in 1 20 (length text)) _ number in
    let same = no_plus text digits in
    let some = length_bounds (length text) (and_first (lies_in 1 20 (length text)) _ number) in
    ⊎_elim
    (λ below. absurd (fails (subst (λ t. IsNumeral 10 t × (digits_value 10 t < 2 ^ 64)) (sym same) ((some, all_digits text digits), below))))
    (λ past. ap₂ (λ a b. cond (a && b) (Some (digits_value 10 text)) None) number (lies_above least most (digits_value 10 text) (omega arith)))
    (cases_lt (digits_value 10 text) (2 ^ 64))
