-- Sets of registers by their bits: which registers units need and write.
use Rattle.std.proofs.Common.{◌≡◌, ℕ, ◌^◌, ◌<◌, ◌==◌, ◌&&◌, ◌||◌, not, Bool, true, false, List, [], ◌∷◌, refl, ap, ◌∙◌, inl, inr, arith}
use Rattle.std.specs.Prelude.{bit_or, bit_and}
use Rattle.std.specs.Int.{bit_at, bit_not, w64}
use Rattle.std.specs.List.{flat_map}
use Rattle.std.proofs.lemmas.Bool.{cases_eq, eq-eqb, ne_eqb}
use Rattle.std.proofs.lemmas.Nat.Bits.{bit_at-lt, bit_at-zero, bit_at_or, bit_at_and, bit_at_not}
use Rattle.delay_slots.specs.declared.unit.Unit.{Unit}
use Rattle.block_builder.specs.Registers.{register_set, unit_writes}
use Rattle.block_builder.proofs.SetLemmas.{register_set-append}
use Rattle.word_emitter.specs.Pieces.{is_written}

pub has_none : (r : ℕ) → (bit_at 0 r == 1) ≡ false
has_none r = ne_eqb (bit_at 0 r) 1 (λ one. omega (arith, one, bit_at-zero r))

pub has_either : (a b r : ℕ) → (bit_at (bit_or a b) r == 1) ≡ ((bit_at a r == 1) || (bit_at b r == 1))
has_either a b r =
    elim (cases_eq (bit_at a r) 1) [
      | inl one ↦
          let left : (bit_at a r == 1) ≡ true = eq-eqb (bit_at a r) 1 one in
          rw left (eq-eqb (bit_at (bit_or a b) r) 1 (omega (arith, bit_at_or a b r, one, bit_at-lt b r)))
      | inr other ↦
          let left : (bit_at a r == 1) ≡ false = ne_eqb (bit_at a r) 1 other in
          let same : bit_at (bit_or a b) r ≡ bit_at b r = omega (arith, bit_at_or a b r, other, bit_at-lt a r) in
          rw left (ap (λ n. n == 1) same)
    ]

pub has_without : (a b r : ℕ) → b < 2 ^ 64 → r < 64 → (bit_at (bit_and a (bit_not w64 b)) r == 1) ≡ (not (bit_at b r == 1) && (bit_at a r == 1))
has_without a b r small within =
    elim (cases_eq (bit_at b r) 1) [
      | inl one ↦
          let right : (bit_at b r == 1) ≡ true = eq-eqb (bit_at b r) 1 one in
          rw right (ne_eqb (bit_at (bit_and a (bit_not w64 b)) r) 1
          (λ is. omega (arith, is, bit_at_and a (bit_not w64 b) r, bit_at_not w64 b r small within, one)))
      | inr other ↦
          let right : (bit_at b r == 1) ≡ false = ne_eqb (bit_at b r) 1 other in
          let same : bit_at (bit_and a (bit_not w64 b)) r ≡ bit_at a r = omega (arith, bit_at_and a (bit_not w64 b) r, bit_at_not w64 b r small within, other, bit_at-lt b r, bit_at-lt a r) in
          rw right (ap (λ n. n == 1) same)
    ]

-- the registers so far, and those that a unit and the ones behind it need
pub needed_more : (found written needs writes later : Bool)
    → (found || (not written && (needs || (not writes && later)))) ≡ ((found || (not written && needs)) || (not (written || writes) && later))
needed_more true written needs writes later = refl
needed_more false true needs writes later = refl
needed_more false false needs writes later = refl

pub needed_all : (found written : Bool) → (found || (not written && false)) ≡ found
needed_all true written = refl
needed_all false true = refl
needed_all false false = refl

pub has_written : (units : List Unit) (r : ℕ) → (bit_at (register_set (flat_map unit_writes units)) r == 1) ≡ is_written units r
has_written [] r = has_none r
has_written (unit ∷ units) r =
    ap (λ n. bit_at n r == 1) (register_set-append (unit_writes unit) (flat_map unit_writes units))
    ∙ has_either (register_set (unit_writes unit)) (register_set (flat_map unit_writes units)) r
    ∙ ap (λ b. (bit_at (register_set (unit_writes unit)) r == 1) || b) (has_written units r)
