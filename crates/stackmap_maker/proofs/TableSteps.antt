-- What became a class, by its place.
use Rattle.std.proofs.Common.{◌≡◌, ℕ, zero, suc, ◌+◌, List, [], ◌∷◌, length, refl, sym, ap, subst, ◌∙◌, Some, arith}
use Rattle.std.specs.Prelude.{slice_get}
use Rattle.std.proofs.lemmas.Option.{same_Some, none-some}
use Rattle.class_definition.specs.declared.class.Class.{Class}
use Rattle.stackmap_laws.specs.Framed.{IsFramed, AreFramedFrom, AreFramed}

pub framed-back : (cs : List Class) (number : ℕ) (xs ys : List Class) → AreFramedFrom cs number xs ys → (k : ℕ) (d : Class) → slice_get ys k ≡ Some d → (c : Class) × (slice_get xs k ≡ Some c) × IsFramed cs (number + k) c d
framed-back cs number [] [] f k d is = absurd (none-some d is)
framed-back cs number [] (y ∷ ys) f k d is = absurd f
framed-back cs number (x ∷ xs) [] f k d is = absurd f
framed-back cs number (x ∷ xs) (y ∷ ys) f zero d is =
    let e : number ≡ number + 0 = omega arith in
    (x, refl, subst (λ i. IsFramed cs i x d) e (subst (IsFramed cs number x) (same_Some y d is) f.0))
framed-back cs number (x ∷ xs) (y ∷ ys) f (suc k) d is =
    let e : suc number + k ≡ number + suc k = omega arith in
    let r = framed-back cs (suc number) xs ys f.1 k d is in
    (r.0, r.1, subst (λ i. IsFramed cs i r.0 d) e r.2)

pub framed-count : (cs : List Class) (number : ℕ) (xs ys : List Class) → AreFramedFrom cs number xs ys → length ys ≡ length xs
framed-count cs number [] [] f = refl
framed-count cs number [] (y ∷ ys) f = absurd f
framed-count cs number (x ∷ xs) [] f = absurd f
framed-count cs number (x ∷ xs) (y ∷ ys) f = ap suc (framed-count cs (suc number) xs ys f.1)

pub class-at : (cs ds : List Class) → AreFramed cs ds → (number : ℕ) (d : Class) → slice_get ds number ≡ Some d → (c : Class) × (slice_get cs number ≡ Some c) × IsFramed cs number c d
class-at cs ds f number d is =
    let r = framed-back cs 0 cs ds f number d is in
    let e : 0 + number ≡ number = omega arith in
    (r.0, r.1, subst (λ k. IsFramed cs k r.0 d) e r.2)

-- a class and what became of it
pub class-is-framed : (cs ds : List Class) → AreFramed cs ds → (number : ℕ) (old d : Class) → slice_get cs number ≡ Some old → slice_get ds number ≡ Some d → IsFramed cs number old d
class-is-framed cs ds f number old d old-is is =
    let r = class-at cs ds f number d is in
    subst (λ c. IsFramed cs number c d) (same_Some r.0 old (sym r.1 ∙ old-is)) r.2
