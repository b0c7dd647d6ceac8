-- The helpers, tried one by one.
use Rattle.std.proofs.Common.{◌≡◌, ℕ, zero, suc, ◌+◌, ◌<◌, ◌≤◌, nat_le, Bool, true, refl, sym, subst, inl, inr, arith}
use Rattle.std.specs.List.{list_all, range_with_len}
use Rattle.std.proofs.lemmas.Bool.{and_parts, cases_eq, leb-true}
use Rattle.run_definition.specs.declared.order.Order.{Order}
use Rattle.run_definition.specs.declared.order.Order.TheVariants.{Big, Little}
use Rattle.mem_helpers.specs.Methods.{helper_code}
use Rattle.emit_assembly.specs.Assembling.{slots_of}

abbrev is_few : Order → ℕ → Bool
is_few order number = nat_le (slots_of (helper_code order number)) 2

tried : (order : Order) → list_all (is_few order) (range_with_len 0 20) ≡ true
tried Big = refl
tried Little = refl

one-of : (test : ℕ → Bool) (a n k : ℕ) → list_all test (range_with_len a n) ≡ true → a ≤ k → k < a + n → test k ≡ true
one-of test a zero k all from below = absurd (omega (arith, from, below))
one-of test a (suc n) k all from below =
    let parts = and_parts (test a) (list_all test (range_with_len (a + 1) n)) all in
    elim (cases_eq k a) [
      | inl same ↦ subst (λ x. test x ≡ true) (sym same) parts.0
      | inr other ↦ one-of test (a + 1) n k parts.1 (omega (arith, from, other)) (omega (arith, below))
    ]

pub helpers-few : (order : Order) (number : ℕ) → number < 20 → slots_of (helper_code order number) ≤ 2
helpers-few order number h =
    leb-true (slots_of (helper_code order number)) 2 (one-of (is_few order) 0 20 number (tried order) (omega arith) (omega (arith, h)))
