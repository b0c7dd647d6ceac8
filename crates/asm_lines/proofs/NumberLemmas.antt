-- Numbers above every range.
use Rattle.std.proofs.Common.{◌≡◌, ℕ, ◌+◌, ◌-◌, ◌*◌, ◌^◌, ◌≤◌, ◌<◌, Bool, true, false, cond, List, [], ◌∷◌, arith, refl, ap, sym, ◌∙◌, ltb, leb, inl, inr, Option, Some, None}
use Rattle.std.specs.Prelude.{option_map}
use Rattle.std.proofs.lemmas.Bool.{cases_lt}
use Rattle.asm_lines.specs.declared.number.Number.{Number}
use Rattle.asm_lines.specs.Limits.{capped, kept}
use Rattle.asm_lines.specs.Operands.{in_range, numbered}
use Rattle.asm_lines.specs.Numbers.{digit_value, digits_after}

pub capped_more : (base high digit : ℕ) → 1 ≤ base → capped (capped high * base + digit) ≡ capped (high * base + digit)
capped_more base high digit h = grind arith

pub capped_step : (base high : ℕ) (bs : List ℕ) → 1 ≤ base
    → option_map capped (digits_after base (capped high) bs) ≡ option_map capped (digits_after base high bs)
capped_step base high [] h = ap (λ n. Some n) (omega arith)
capped_step base high (b ∷ bs) h =
    elim (ltb (digit_value b) base) as (λ t. option_map capped (cond t (digits_after base (capped high * base + digit_value b) bs) None)
    ≡ option_map capped (cond t (digits_after base (high * base + digit_value b) bs) None)) [
      | true ↦ sym (capped_step base (capped high * base + digit_value b) bs h)
          ∙ ap (λ n. option_map capped (digits_after base n bs)) (capped_more base high (digit_value b) h)
          ∙ capped_step base (high * base + digit_value b) bs h
      | false ↦ refl
    ]

in_range_capped : (negative : Bool) (low high bits m : ℕ) → low < 2 ^ 40 → high < 2 ^ 40
    → in_range low high bits (Some (record { negative = negative; magnitude = capped m })) ≡ in_range low high bits (Some (record { negative = negative; magnitude = m }))
in_range_capped negative low high bits m a b =
    elim (cases_lt (2 ^ 40) m) [
      | inr h ↦ (let e : capped m ≡ m = omega (arith, h) in rw e refl)
      | inl h ↦ (let e : leb (capped m) low ≡ false = grind arith in
          let f : leb m low ≡ false = grind arith in
          let g : leb (capped m) high ≡ false = grind arith in
          let i : leb m high ≡ false = grind arith in
          elim negative as (λ t. in_range low high bits (Some (record { negative = t; magnitude = capped m })) ≡ in_range low high bits (Some (record { negative = t; magnitude = m })))
          [ true ↦ rw (e, f) refl | false ↦ rw (g, i) refl ])
    ]

-- what is kept of a number decides whether it is in a range, and its low bits there
pub in_range_kept : (low high bits : ℕ) (n : Option Number) → low < 2 ^ 40 → high < 2 ^ 40
    → in_range low high bits (option_map kept n) ≡ in_range low high bits n
in_range_kept low high bits None a b = refl
in_range_kept low high bits (Some n) a b = in_range_capped n.negative low high bits n.magnitude a b

numbered_capped : (negative : Bool) (m : ℕ)
    → numbered (Some (record { negative = negative; magnitude = capped m })) ≡ numbered (Some (record { negative = negative; magnitude = m }))
numbered_capped negative m =
    elim (cases_lt (2 ^ 40) m) [
      | inr h ↦ (let e : capped m ≡ m = omega (arith, h) in rw e refl)
      | inl h ↦ (let e : leb (capped m) 0 ≡ false = grind arith in
          let f : leb m 0 ≡ false = grind arith in
          let g : leb (capped m) (2 ^ 32 - 1) ≡ false = grind arith in
          let i : leb m (2 ^ 32 - 1) ≡ false = grind arith in
          elim negative as (λ t. numbered (Some (record { negative = t; magnitude = capped m })) ≡ numbered (Some (record { negative = t; magnitude = m })))
          [ true ↦ rw (e, f) refl | false ↦ rw (g, i) refl ])
    ]

pub numbered_kept : (n : Option Number) → numbered (option_map kept n) ≡ numbered n
numbered_kept None = refl
numbered_kept (Some n) = numbered_capped n.negative n.magnitude
