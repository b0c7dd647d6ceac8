-- What the code finds in a word.
use Rattle.std.proofs.Common.{◌≡◌, ◌∙◌, ◌<◌, ◌≤◌, ◌+◌, ℕ, Bool, cond, true, false, not, suc, refl, sym, arith, List, [], ◌∷◌, length, take, drop, Some, None, nat_lt, lt-ltb, ap₂}
use Rattle.std.proofs.lemmas.Bool.Decides.{nat_tests}
use Rattle.std.specs.List.{list_any, position, position_or_len}
use Rattle.std.proofs.lemmas.Bool.{ltb-false}
use Rattle.std.proofs.Math.Seq.{take-length}
use Rattle.std.proofs.lemmas.List.Sums.{prefix_len-le-length}
use Rattle.nv_values.specs.Names.{Text}
use Rattle.command_forms.specs.Word.{is_equals, name_and_value}

zero_lt : (n : ℕ) → nat_lt 0 (suc n) ≡ true
zero_lt n = lt-ltb 0 (suc n) (omega arith)

suc_lt : (a b : ℕ) → nat_lt (1 + a) (suc b) ≡ nat_lt a b
suc_lt a b = grind (arith, nat_tests)

pub any_position : {X : Type 0} (p : X → Bool) (xs : List X) → list_any p xs ≡ nat_lt (position_or_len p xs) (length xs)
any_position p [] = refl
any_position p (x ∷ xs) = go (p x) refl (any_position p xs)
  where
    go : (b : Bool) → p x ≡ b → list_any p xs ≡ nat_lt (position_or_len p xs) (length xs) → list_any p (x ∷ xs) ≡ nat_lt (position_or_len p (x ∷ xs)) (length (x ∷ xs))
    go true e rest = simp e (sym (zero_lt (length xs)))
    go false e rest = simp e (rest ∙ sym (suc_lt (position_or_len p xs) (length xs)))

pub position_is : {X : Type 0} (p : X → Bool) (xs : List X) (i : ℕ) → position p xs ≡ Some i → (position_or_len p xs ≡ i) × (list_any p xs ≡ true)
position_is p xs i found = go (nat_lt (position_or_len p xs) (length xs)) refl
  where
    go : (b : Bool) → nat_lt (position_or_len p xs) (length xs) ≡ b → (position_or_len p xs ≡ i) × (list_any p xs ≡ true)
    go true e = let at : Some (position_or_len p xs) ≡ Some i = rw e at found in (cc, any_position p xs ∙ e)
    go false e = let at : None ≡ Some i = rw e at found in absurd (cc)

pub no_position : {X : Type 0} (p : X → Bool) (xs : List X) → position p xs ≡ None → (length xs ≤ position_or_len p xs) × (list_any p xs ≡ false)
no_position p xs none = go (nat_lt (position_or_len p xs) (length xs)) refl
  where
    go : (b : Bool) → nat_lt (position_or_len p xs) (length xs) ≡ b → (length xs ≤ position_or_len p xs) × (list_any p xs ≡ false)
    go true e = let at : Some (position_or_len p xs) ≡ None = rw e at none in absurd (cc)
    go false e = (ltb-false (position_or_len p xs) (length xs) e, any_position p xs ∙ e)

pub whole : {A : Type 0} (t : List A) (k : ℕ) → length t ≤ k → k ≤ length t → take k t ≡ t
whole t k past within = let at : k ≡ length t = omega arith in rw at (take-length t)

pub name_at : (text : Text) (i : ℕ) → position is_equals text ≡ Some i → name_and_value text ≡ Some (take i text, Some (drop (i + 1) text))
name_at [] i found = absurd (cc)
name_at (b ∷ bs) i found =
    let at = position_is is_equals (b ∷ bs) i found in
    ap₂ (λ k (any : Bool). Some (take k (b ∷ bs), cond any (Some (drop (k + 1) (b ∷ bs))) None)) at.0 at.1

pub name_alone : (text : Text) → 0 < length text → position is_equals text ≡ None → name_and_value text ≡ Some (text, None)
name_alone [] some none = absurd (omega arith)
name_alone (b ∷ bs) some none =
    let past = no_position is_equals (b ∷ bs) none in
    ap₂ (λ t (any : Bool). Some (t, cond any (Some (drop (position_or_len is_equals (b ∷ bs) + 1) (b ∷ bs))) None)) (whole (b ∷ bs) (position_or_len is_equals (b ∷ bs)) past.0 (prefix_len-le-length (λ x. not (is_equals x)) (b ∷ bs))) past.1
