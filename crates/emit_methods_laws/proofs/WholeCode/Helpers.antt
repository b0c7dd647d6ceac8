-- The helpers.
use Rattle.std.proofs.Common.{◌≡◌, ℕ, ◌-◌, ◌<◌, ◌^◌, Bool, true, nat_lt, length, refl, inl, inr, arith}
use Rattle.std.specs.Prelude.{◌&&◌, ◌==◌}
use Rattle.std.specs.List.{list_all, range_with_len}
use Rattle.std.proofs.lemmas.Bool.{and_from, and_parts, or_cases, eqb-true, le-leb, lt-ltb, ltb-true}
use Rattle.run_definition.specs.declared.order.Order.{Order}
use Rattle.run_definition.specs.declared.order.Order.TheVariants.{Big, Little}
use Rattle.class_definition.specs.Linking.{gives_int}
use Rattle.emit_steps.specs.Widths.{size}
use Rattle.emit_layout.specs.Helpers.{helper_descriptor}
use Rattle.mem_helpers.specs.Methods.{helper_code}
use Rattle.emit_assembly.specs.declared.references.References.{References}
use Rattle.emit_assembly.specs.Assembling.{has_method}
use Rattle.emit_simulation_laws.specs.Helpers.{helper_parameters}
use Rattle.emit_types_laws.specs.Judging.{is_no_switch}
use Rattle.emit_types_laws.specs.Methods.{HelpersTyped, owes_nothing}
use Rattle.emit_methods_laws.specs.Naming.{is_fault, is_helper}
use Rattle.emit_methods_laws.specs.Whole.{CanBeMethod, HasHelpers}
use Rattle.emit_methods_laws.proofs.NamedCode.Helpers.{helper-well, one-of}
use Rattle.emit_methods_laws.proofs.WholeCode.Bodies.{body-can-be}
use Rattle.emit_methods_laws.proofs.WholeCode.Programs.{of_helpers, helper-types}

-- ---- what helpers and units call is there

pub helpers-called : (r : References) → HasHelpers r → (m : ℕ) → is_helper m ≡ true → has_method r m ≡ true
helpers-called r has m is =
    let below = ltb-true m 20 is in
    let first = has.first in
    let many = has.helpers in
    and_from _ _ (le-leb r.first_method m (omega (arith, first)))
    (lt-ltb (m - r.first_method) (length r.methods) (omega (arith, below, first, many)))

faults-called : (r : References) → HasHelpers r → (m : ℕ) → is_fault m ≡ true → has_method r m ≡ true
faults-called r has m is =
    elim (or_cases (m == 18) (m == 19) is) [
      | inl one ↦ let same = eqb-true m 18 one in helpers-called r has m (lt-ltb m 20 (omega (arith, same)))
      | inr other ↦ let same = eqb-true m 19 other in helpers-called r has m (lt-ltb m 20 (omega (arith, same)))
    ]

-- ---- each of them, tried one by one

abbrev is_small : Order → ℕ → Bool
is_small order number =
    nat_lt 0 (length (helper_code order number)) && nat_lt (size (helper_code order number)) (2 ^ 15)
    && list_all is_no_switch (helper_code order number)

tried : (order : Order) → list_all (is_small order) (range_with_len 0 20) ≡ true
tried Big = refl
tried Little = refl

pub helper-can-be : (r : References) (order : Order) (number : ℕ) → HelpersTyped order → HasHelpers r → number < 20
    → CanBeMethod r (helper_code order number)
helper-can-be r order number typed has few =
    let code = helper_code order number in
    let all = one-of (is_small order) 0 20 number (tried order) (omega arith) (omega (arith, few)) in
    let parts = and_parts (nat_lt 0 (length code) && nat_lt (size code) (2 ^ 15)) (list_all is_no_switch code) all in
    let sizes = and_parts (nat_lt 0 (length code)) (nat_lt (size code) (2 ^ 15)) parts.0 in
    body-can-be r 38 has.fields is_fault (faults-called r has) 0 (gives_int (helper_descriptor number)) of_helpers owes_nothing
    (helper_parameters number) 4 code (typed of_helpers helper-types number few) (ltb-true 0 (length code) sizes.0)
    (ltb-true (size code) (2 ^ 15) sizes.1) parts.1 (helper-well order 0 number few)
