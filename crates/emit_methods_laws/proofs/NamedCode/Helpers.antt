-- The code of each helper, tried one by one.
use Rattle.std.proofs.Common.{◌≡◌, ℕ, zero, suc, ◌+◌, ◌<◌, ◌≤◌, Bool, true, refl, sym, subst, inl, inr, arith}
use Rattle.std.specs.List.{list_all, range_with_len}
use Rattle.std.proofs.lemmas.Bool.{and_parts, cases_eq}
use Rattle.run_definition.specs.declared.order.Order.{Order}
use Rattle.run_definition.specs.declared.order.Order.TheVariants.{Big, Little}
use Rattle.class_definition.specs.Linking.{gives_int}
use Rattle.emit_layout.specs.Helpers.{helper_descriptor}
use Rattle.mem_helpers.specs.Methods.{helper_code}
use Rattle.emit_methods_laws.specs.Naming.{all_well, is_fault}

abbrev is_well : Order → ℕ → ℕ → Bool
is_well order class number = all_well is_fault class (gives_int (helper_descriptor number)) (helper_code order number)

tried : (order : Order) (class : ℕ) → list_all (is_well order class) (range_with_len 0 20) ≡ true
tried Big class = refl
tried Little class = refl

pub one-of : (test : ℕ → Bool) (a n k : ℕ) → list_all test (range_with_len a n) ≡ true → a ≤ k → k < a + n → test k ≡ true
one-of test a zero k all from below = absurd (omega (arith, from, below))
one-of test a (suc n) k all from below =
    let parts = and_parts (test a) (list_all test (range_with_len (a + 1) n)) all in
    elim (cases_eq k a) [
      | inl same ↦ subst (λ x. test x ≡ true) (sym same) parts.0
      | inr other ↦ one-of test (a + 1) n k parts.1 (omega (arith, from, other)) (omega (arith, below))
    ]

pub helper-well : (order : Order) (class number : ℕ) → number < 20 → is_well order class number ≡ true
helper-well order class number h = one-of (is_well order class) 0 20 number (tried order class) (omega arith) (omega (arith, h))
