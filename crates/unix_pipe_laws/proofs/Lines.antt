-- What is read of a list, where more may follow it.
use Rattle.std.proofs.Common.{◌≡◌, ℕ, suc, ◌==◌, ◌≤◌, Bool, true, false, ◌||◌, if◌then◌else◌, List, [], ◌∷◌, ◌++◌, length, take, drop, refl, ap, sym, ◌∙◌, inl, inr, arith, nat_le}
use Rattle.std.specs.List.{list_any}
use Rattle.std.proofs.lemmas.Bool.{or_cases, leb-true}
use Rattle.std.proofs.lemmas.List.{take-append-le, drop-append-le, length-take, append-nil}
use Rattle.unix_definition.specs.Calls.{first_line}
use Rattle.unix_pipe_laws.specs.Pipelines.{is_newline, has_enough}

-- a line's end is there: what follows does not matter
ended-line : (bs more : List ℕ) → list_any is_newline bs ≡ true → first_line (bs ++ more) ≡ first_line bs
ended-line [] more h = cc
ended-line (b ∷ bs) more h = by-test (b == 0x0A) (λ i. ended-line bs more i) h
  where
    by-test : (t : Bool) → (list_any is_newline bs ≡ true → first_line (bs ++ more) ≡ first_line bs) → (t || list_any is_newline bs) ≡ true
        → (if t then b ∷ [] else b ∷ first_line (bs ++ more)) ≡ (if t then b ∷ [] else b ∷ first_line bs)
    by-test true later h = refl
    by-test false later h = ap (λ l. b ∷ l) (later h)

-- none is there: the line goes on behind it
open-line : (bs more : List ℕ) → list_any is_newline bs ≡ false → first_line (bs ++ more) ≡ bs ++ first_line more
open-line [] more h = refl
open-line (b ∷ bs) more h = by-test (b == 0x0A) (λ i. open-line bs more i) h
  where
    by-test : (t : Bool) → (list_any is_newline bs ≡ false → first_line (bs ++ more) ≡ bs ++ first_line more) → (t || list_any is_newline bs) ≡ false
        → (if t then b ∷ [] else b ∷ first_line (bs ++ more)) ≡ b ∷ (bs ++ first_line more)
    by-test true later h = cc
    by-test false later h = ap (λ l. b ∷ l) (later h)

whole-line : (bs : List ℕ) → list_any is_newline bs ≡ false → first_line bs ≡ bs
whole-line bs h = ap first_line (sym (append-nil bs)) ∙ (open-line bs [] h ∙ append-nil bs)

short-line : (bs : List ℕ) → length (first_line bs) ≤ length bs
short-line [] = omega arith
short-line (b ∷ bs) = by-test (b == 0x0A) (short-line bs)
  where
    by-test : (t : Bool) → length (first_line bs) ≤ length bs → length (if t then b ∷ [] else b ∷ first_line bs) ≤ suc (length bs)
    by-test true later = omega arith
    by-test false later = omega arith

-- no more is read than there is
pub line-within : (m : ℕ) (bs : List ℕ) → length (take m (first_line bs)) ≤ length bs
line-within m bs = omega (arith, length-take m (first_line bs), short-line bs)

-- where enough is there, what follows does not matter to a read
pub enough-read : (m : ℕ) (bs more : List ℕ) → has_enough m bs ≡ true → take m (first_line (bs ++ more)) ≡ take m (first_line bs)
enough-read m bs more h = by-newline (list_any is_newline bs) refl h
  where
    by-newline : (t : Bool) → list_any is_newline bs ≡ t → (nat_le m (length bs) || list_any is_newline bs) ≡ true → take m (first_line (bs ++ more)) ≡ take m (first_line bs)
    by-newline true e h = ap (take m) (ended-line bs more e)
    by-newline false e h =
        let few : m ≤ length bs = elim (or_cases (nat_le m (length bs)) (list_any is_newline bs) h) [
          | inl is ↦ leb-true m (length bs) is
          | inr is ↦ let no : true ≡ false = sym is ∙ e in cc
        ] in
        ap (take m) (open-line bs more e) ∙ (take-append-le m bs (first_line more) few ∙ ap (take m) (sym (whole-line bs e)))

-- and is left behind it
pub left-behind : (m : ℕ) (bs more : List ℕ) → drop (length (take m (first_line bs))) (bs ++ more) ≡ drop (length (take m (first_line bs))) bs ++ more
left-behind m bs more = drop-append-le (length (take m (first_line bs))) bs more (line-within m bs)
