-- Numbers of methods: each between two is that of a method of a class.
use Rattle.std.proofs.Common.{◌≡◌, ℕ, zero, suc, ◌+◌, ◌-◌, ◌*◌, ◌<◌, ◌≤◌, inl, inr, List, [], ◌∷◌, length, slice_get, Some, refl, subst, arith}
use Rattle.std.proofs.lemmas.Bool.{cases_lt}
use Rattle.translate_program.specs.Classes.{Placed, Follow, run_of, methods_behind}

pub in-code : (P : ℕ → Type 0) (number first : ℕ) (code : List Placed) → Follow number first code
    → ((i : ℕ) (c : Placed) → slice_get code i ≡ Some c → (k : ℕ) → k < length c.spans + 1 → P (c.first_method + k))
    → (m : ℕ) → first ≤ m → m < methods_behind first code → P m
in-code P number first [] follow each m low high = absurd (omega (arith, low, high))
in-code P number first (c ∷ code) follow each m low high =
    elim (cases_lt m (run_of c + 1)) [
      | inl own ↦
          let e : c.first_method + (m - c.first_method) ≡ m = omega (arith, follow.1, low) in
          subst P e (each 0 c refl (m - c.first_method) (omega (arith, own, follow.1, low)))
      | inr other ↦ in-code P (number + 1) (run_of c + 1) code follow.2 (λ i d there. each (suc i) d there) m other high
    ]

pub in-data : (P : ℕ → Type 0) (methods count : ℕ) → ((k : ℕ) → k < count → P (methods + 2 * k)) → ((k : ℕ) → k < count → P (methods + 2 * k + 1))
    → (m : ℕ) → methods ≤ m → m < methods + 2 * count → P m
in-data P methods zero first second m low high = absurd (omega (arith, low, high))
in-data P methods (suc n) first second m low high =
    elim (cases_lt m (methods + 2 * n)) [
      | inl less ↦ in-data P methods n (λ k below. first k (omega (arith, below))) (λ k below. second k (omega (arith, below))) m low less
      | inr more ↦
          elim (cases_lt m (methods + 2 * n + 1)) [
            | inl one ↦ let e : methods + 2 * n ≡ m = omega (arith, more, one) in subst P e (first n (omega arith))
            | inr two ↦ let e : methods + 2 * n + 1 ≡ m = omega (arith, two, high) in subst P e (second n (omega arith))
          ]
    ]
