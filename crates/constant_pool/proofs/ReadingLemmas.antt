-- What reading a pool at a place gives.
use Rattle.std.proofs.Common.{◌≡◌, ℕ, ◌+◌, ◌-◌, ◌≤◌, List, ◌++◌, length, drop, Result, Ok, refl, sym, ap, ◌∙◌, subst, arith}
use Rattle.std.proofs.lemmas.List.{get_or-drop, drop-drop, drop_at, length-append}
use Rattle.class_definition.specs.declared.miss.Miss.{Miss}
use Rattle.class_definition.specs.Format.{Format}
use Rattle.class_definition.specs.Spelling.{IsBytes, Begins, IsFormat}
use Rattle.class_format.proofs.Readings.{same_value}

-- what was read at a place
pub record Taken {A : Type 0} (f : Format A) (b : List ℕ) (at : ℕ) (size left : ℕ) (a : A) (rest : List ℕ) : Type 0 where
  pub begins : Begins f (drop at b) a (drop (at + (size - left)) b)
  pub rest_is : rest ≡ drop (at + (size - left)) b
  pub place : size - left ≡ length (f.spell a)
  pub le : left ≤ size

IsBytes-drop : (n : ℕ) (bytes : List ℕ) → IsBytes bytes → IsBytes (drop n bytes)
IsBytes-drop n bytes h i = rw get_or-drop (h (n + i))

pub taken_at : {A : Type 0} (f : Format A) (b : List ℕ) (at : ℕ) (bytes : List ℕ) (a : A) (rest : List ℕ) → IsFormat f → IsBytes b → bytes ≡ drop at b
    → f.read bytes ≡ Ok (a, rest) → Taken f b at (length bytes) (length rest) a rest
taken_at f b at bytes a rest law h is e =
    let fits : IsBytes bytes = subst IsBytes (sym is) (IsBytes-drop at b h) in
    let t = law.taken bytes a rest fits e in
    let size : length bytes ≡ length (f.spell a) + length rest = ap length t.spelled ∙ length-append (f.spell a) rest in
    let place : length bytes - length rest ≡ length (f.spell a) = omega arith in
    let parts : drop at b ≡ f.spell a ++ rest = sym is ∙ t.spelled in
    let behind : drop (at + (length bytes - length rest)) b ≡ rest =
    rw place (sym (drop-drop (length (f.spell a)) at b) ∙ ap (drop (length (f.spell a))) parts ∙ drop_at (f.spell a) rest (length (f.spell a)) refl) in
    record { begins = record { fits = t.fits; spelled = rw behind parts }; rest_is = sym behind; place = place; le = omega arith }

-- what is spelled at a place is read there
pub read_at : {A : Type 0} (f : Format A) (b : List ℕ) (at : ℕ) (bytes : List ℕ) (a : A) (rest : List ℕ) → IsFormat f → bytes ≡ drop at b
    → Begins f (drop at b) a rest → f.read bytes ≡ Ok (a, rest)
read_at f b at bytes a rest law is t = rw (is, t.spelled) (law.back a rest t.fits)

pub same_read : {A : Type 0} (r : Result (A × List ℕ) Miss) (a c : A) (rest behind : List ℕ) → r ≡ Ok (a, rest) → r ≡ Ok (c, behind) → a ≡ c
same_read {A} r a c rest behind e g = ap (λ (x : A × List ℕ). x.0) (same_value {E = Miss} (a, rest) (c, behind) (sym e ∙ g))
