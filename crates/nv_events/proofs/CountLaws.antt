-- Counts of turns, one after the other.
use Rattle.std.proofs.Common.{◌≡◌, ℕ, zero, suc, ◌+◌, Option, Some, None, Result, Ok, Err, refl, ap, sym, subst, ◌∙◌, arith}
use Rattle.run_definition.specs.declared.io_fault.IoFault.{IoFault}
use Rattle.run_definition.specs.declared.outcome.Outcome.{Outcome}
use Rattle.nv_events.specs.Counting.{counted, tells_more, IsCounted}

counted-counted : (c n m : ℕ) → counted (counted c n) m ≡ counted c (n + m)
counted-counted c n m = omega arith

more-more : (c : Option ℕ) (n m : ℕ) → tells_more (tells_more c n) m ≡ tells_more c (n + m)
more-more (Some c) n m = ap Some (counted-counted c n m)
more-more None n m = refl

-- so many turns, and then others
pub counted_add : (n m : ℕ) (a b c : Option ℕ) → IsCounted n a b → IsCounted m b c → IsCounted (n + m) a c
counted_add n zero a b c h g =
    let e : n ≡ n + zero = omega arith in
    subst (λ (x : Option ℕ). IsCounted (n + zero) a x) (sym g) (subst (λ i. IsCounted i a b) e h)
counted_add zero (suc m) a b c h g =
    let e : suc m ≡ zero + suc m = omega arith in
    subst (λ i. IsCounted i a c) e (g ∙ ap (λ x. tells_more x (suc m)) h)
counted_add (suc n) (suc m) a b c h g =
    let e : suc n + suc m ≡ suc (n + suc m) = omega arith in
    let on : c ≡ tells_more a (suc (n + suc m)) =
    g ∙ ap (λ x. tells_more x (suc m)) h ∙ more-more a (suc n) (suc m) ∙ ap (tells_more a) e in
    subst (λ i. IsCounted i a c) (sym e) on

-- and then one
pub counted_one : (n m : ℕ) (a b c d : Option ℕ) → IsCounted n a b → IsCounted m b c → d ≡ tells_more c 1 → IsCounted (n + m + 1) a d
counted_one n m a b c d h g e = counted_add (n + m) 1 a c d (counted_add n m a b c h g) e

pub err_not_ok : (r : Result Outcome IoFault) (f : IoFault) (o : Outcome) → r ≡ Err f → r ≡ Ok o → ⊥
err_not_ok r f o h e = let wrong : Err f ≡ Ok o = sym h ∙ e in cc
