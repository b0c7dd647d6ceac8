-- The numbers of the methods of spans.
use Rattle.std.proofs.Common.{◌≡◌, ℕ, zero, suc, ◌+◌, ◌<◌, ◌≤◌, true, false, List, [], ◌∷◌, length, slice_get, Some, refl, subst, arith}
use Rattle.std.proofs.lemmas.Bool.{or_from, or_left, or_right}
use Rattle.std.proofs.lemmas.Bool.Decides.{nat_tests}
use Rattle.trampoline_laws.specs.Classes.{CodeClass, AreNumbered, run_of, is_span_of, is_span}

before : (c : CodeClass) (m : ℕ) → m < c.first_method → is_span_of c m ≡ false
before c m less = grind (arith, nat_tests)

after : (c : CodeClass) (m : ℕ) → run_of c ≤ m → is_span_of c m ≡ false
after c m more = grind (arith, nat_tests)

inside : (c : CodeClass) (j : ℕ) → j < length c.spans → is_span_of c (c.first_method + j) ≡ true
inside c j below = grind (arith, nat_tests)

pub lower-none : (low : ℕ) (classes : List CodeClass) (m : ℕ) → AreNumbered low classes → m < low → is_span classes m ≡ false
lower-none low [] m numbered less = refl
lower-none low (c ∷ classes) m numbered less =
    let from = numbered.0 in
    or_from (is_span_of c m) (is_span classes m) (before c m (omega arith)) (lower-none (run_of c + 1) classes m numbered.1 (omega arith))

pub class-above : (low : ℕ) (classes : List CodeClass) (n : ℕ) (c : CodeClass) → AreNumbered low classes → slice_get classes n ≡ Some c → low ≤ c.first_method
class-above low [] n c numbered at = absurd (cc)
class-above low (d ∷ classes) zero c numbered at = let same : d ≡ c = cc in subst (λ b. low ≤ b.first_method) same numbered.0
class-above low (d ∷ classes) (suc n) c numbered at =
    let from = numbered.0 in
    let rest = class-above (run_of d + 1) classes n c numbered.1 at in
    omega (arith, from, rest)

pub run-none : (low : ℕ) (classes : List CodeClass) (n : ℕ) (c : CodeClass) → AreNumbered low classes → slice_get classes n ≡ Some c → is_span classes (run_of c) ≡ false
run-none low [] n c numbered at = absurd (cc)
run-none low (d ∷ classes) zero c numbered at =
    let same : d ≡ c = cc in
    subst (λ b. is_span (d ∷ classes) (run_of b) ≡ false) same
    (or_from (is_span_of d (run_of d)) (is_span classes (run_of d)) (after d (run_of d) (omega arith)) (lower-none (run_of d + 1) classes (run_of d) numbered.1 (omega arith)))
run-none low (d ∷ classes) (suc n) c numbered at =
    let above = class-above (run_of d + 1) classes n c numbered.1 at in
    or_from (is_span_of d (run_of c)) (is_span classes (run_of c)) (after d (run_of c) (omega (arith, above))) (run-none (run_of d + 1) classes n c numbered.1 at)

pub span-is : (classes : List CodeClass) (n : ℕ) (c : CodeClass) (j : ℕ) → slice_get classes n ≡ Some c → j < length c.spans → is_span classes (c.first_method + j) ≡ true
span-is [] n c j at below = absurd (cc)
span-is (d ∷ classes) zero c j at below =
    let same : d ≡ c = cc in
    subst (λ b. j < length b.spans → is_span (d ∷ classes) (b.first_method + j) ≡ true) same
    (λ less. or_left (is_span_of d (d.first_method + j)) (is_span classes (d.first_method + j)) (inside d j less)) below
span-is (d ∷ classes) (suc n) c j at below =
    or_right (is_span_of d (c.first_method + j)) (is_span classes (c.first_method + j)) (span-is classes n c j at below)
