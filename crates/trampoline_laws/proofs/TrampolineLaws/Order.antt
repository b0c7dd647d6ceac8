-- Classes in the order of their addresses.
use Rattle.std.proofs.Common.{◌≡◌, ℕ, zero, suc, ◌<◌, ◌≤◌, inl, inr, List, [], ◌∷◌, slice_get, Some, All, subst, arith}
use Rattle.std.proofs.lemmas.Bool.{cases_Bool}
use Rattle.std.proofs.lemmas.List.Elements.{All-head, All-tail}
use Rattle.trampoline_laws.specs.Classes.{CodeClass, IsClass, GoesOn, AreOrdered, address, end_of, is_last}

pub goes-up : (c d : CodeClass) → GoesOn c d → end_of c ≤ address d 0
goes-up c d on = elim (cases_Bool (is_last c)) [
  | inl last ↦ let less = on.next_range last in omega arith
  | inr inner ↦ let same = on.same_range inner in omega arith
]

pub ordered-rest : (c : CodeClass) (classes : List CodeClass) → AreOrdered (c ∷ classes) → AreOrdered classes
ordered-rest c [] ordered = tt
ordered-rest c (d ∷ classes) ordered = ordered.1

-- the classes behind one
pub behind : (c : CodeClass) (classes : List CodeClass) (n : ℕ) (d : CodeClass) → All IsClass classes → AreOrdered (c ∷ classes) → slice_get classes n ≡ Some d → end_of c ≤ address d 0
behind c [] n d are ordered at = absurd (cc)
behind c (e ∷ classes) zero d are ordered at =
    let same : e ≡ d = cc in subst (λ b. end_of c ≤ address b 0) same (goes-up c e ordered.0)
behind c (e ∷ classes) (suc n) d are ordered at =
    let rest = behind e classes n d (All-tail IsClass e classes are) ordered.1 at in
    let up = goes-up c e ordered.0 in
    let is = All-head IsClass e classes are in
    omega (arith, rest, up, is.some)

pub classes-apart : (classes : List CodeClass) (m n : ℕ) (c d : CodeClass) → All IsClass classes → AreOrdered classes → slice_get classes m ≡ Some c → slice_get classes n ≡ Some d → m < n → end_of c ≤ address d 0
classes-apart [] m n c d are ordered at_m at_n less = absurd (cc)
classes-apart (e ∷ classes) m zero c d are ordered at_m at_n less = absurd (omega arith)
classes-apart (e ∷ classes) zero (suc n) c d are ordered at_m at_n less =
    let same : e ≡ c = cc in
    subst (λ b. end_of b ≤ address d 0) same (behind e classes n d (All-tail IsClass e classes are) ordered at_n)
classes-apart (e ∷ classes) (suc m) (suc n) c d are ordered at_m at_n less =
    classes-apart classes m n c d (All-tail IsClass e classes are) (ordered-rest e classes ordered) at_m at_n (omega arith)
