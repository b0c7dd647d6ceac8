-- Which registers a set has, and which are known where registers are gained.
use Rattle.std.proofs.Common.{◌≡◌, ℕ, zero, suc, ◌%◌, ◌^◌, ◌<◌, ◌==◌, ◌||◌, if◌then◌else◌, Bool, true, false, max, List, [], ◌∷◌, ◌++◌, refl, sym, ap, ◌∙◌, inl, inr, arith}
use Rattle.std.specs.Prelude.{fold, bit_or}
use Rattle.std.specs.Int.{bit_at}
use Rattle.std.proofs.lemmas.Bool.{cases_eq, eq-eqb, ne_eqb}
use Rattle.std.proofs.lemmas.Nat.Bits.{bit_at-lt, bit_at-zero, bit_at_or, bit_at-pow_same, bit_at-pow_other}
use Rattle.std.proofs.Math.Bool.{or-false, or_assoc}
use Rattle.std.proofs.Math.Nat.{mod-eq_of_lt}
use Rattle.mips_definition.specs.declared.names.hi_lo.HiLo.{HiLo}
use Rattle.mips_definition.specs.declared.names.hi_lo.HiLo.TheVariants.{Hi, Lo}
use Rattle.block_builder.specs.Registers.{Register, general, special, register_bit}
use Rattle.word_emitter.specs.Pieces.{is_in}
use Rattle.emit_simulation_laws.specs.Knowing.{gaining, AreNumbers, gained}
use Rattle.emit_simulation_laws.specs.Lawful.{has_register, is_general}

-- ---- bits

-- a power of two has its own bit alone, and bit 0 is left out
own_bit : (n r : ℕ) → 0 < r → (bit_at (if n == 0 then 0 else 2 ^ n) r == 1) ≡ (n == r)
own_bit n r positive =
    elim (cases_eq n 0) [
      | inl nothing ↦
          rw (eq-eqb n 0 nothing, bit_at-zero r) (sym (ne_eqb n r (λ same. omega (arith, same))))
      | inr some ↦
          elim (cases_eq n r) [
            | inl same ↦ rw (ne_eqb n 0 some) (ap (λ m. bit_at (2 ^ m) r == 1) same ∙ rw (bit_at-pow_same r) (sym (eq-eqb n r same)))
            | inr other ↦ rw (ne_eqb n 0 some, bit_at-pow_other n r (λ same. other (sym same))) (sym (ne_eqb n r other))
          ]
    ]

one_of_two : (x y : ℕ) → x < 2 → y < 2 → (max x y == 1) ≡ ((x == 1) || (y == 1))
one_of_two zero zero a b = refl
one_of_two zero (suc zero) a b = refl
one_of_two (suc zero) zero a b = refl
one_of_two (suc zero) (suc zero) a b = refl
one_of_two (suc (suc x)) y a b = absurd (omega arith)
one_of_two x (suc (suc y)) a b = absurd (omega arith)

bit-or : (n m r : ℕ) → (bit_at (bit_or n m) r == 1) ≡ ((bit_at n r == 1) || (bit_at m r == 1))
bit-or n m r = ap (λ b. b == 1) (bit_at_or n m r) ∙ one_of_two (bit_at n r) (bit_at m r) (bit_at-lt n r) (bit_at-lt m r)

-- ---- sets

general-bit : (d r : ℕ) → d < 32 → 0 < r → (bit_at (register_bit (general d)) r == 1) ≡ is_general r (general d)
general-bit d r below positive = own_bit (d % 32) r positive ∙ ap (λ n. n == r) (mod-eq_of_lt below)

special-bit : (name : HiLo) (r : ℕ) → 0 < r → r < 32 → (bit_at (register_bit (special name)) r == 1) ≡ false
special-bit Hi r positive below = own_bit 32 r positive ∙ ne_eqb 32 r (λ same. omega (arith, same))
special-bit Lo r positive below = own_bit 33 r positive ∙ ne_eqb 33 r (λ same. omega (arith, same))

abbrev set_from : ℕ → List Register → ℕ
set_from n registers = fold (λ sofar r. bit_or sofar (register_bit r)) n registers

-- a register more, before the others
one-more : (q : Register) (registers : List Register) (n r : ℕ) (is : Bool) → (bit_at (register_bit q) r == 1) ≡ is
    → (bit_at (set_from (bit_or n (register_bit q)) registers) r == 1) ≡ ((bit_at (bit_or n (register_bit q)) r == 1) || has_register registers r)
    → (bit_at (set_from n (q ∷ registers)) r == 1) ≡ ((bit_at n r == 1) || (is || has_register registers r))
one-more q registers n r is own later =
    later ∙ ap (λ b. b || has_register registers r) (bit-or n (register_bit q) r ∙ ap (λ b. (bit_at n r == 1) || b) own)
    ∙ or_assoc (bit_at n r == 1) is (has_register registers r)

set-has : (registers : List Register) (n r : ℕ) → AreNumbers registers → 0 < r → r < 32
    → (bit_at (set_from n registers) r == 1) ≡ ((bit_at n r == 1) || has_register registers r)
set-has [] n r numbers positive below = sym (or-false (bit_at n r == 1))
set-has (general d ∷ registers) n r numbers positive below =
    one-more (general d) registers n r (d == r) (general-bit d r numbers.0 positive)
    (set-has registers (bit_or n (register_bit (general d))) r numbers.1 positive below)
set-has (special name ∷ registers) n r numbers positive below =
    one-more (special name) registers n r false (special-bit name r positive below)
    (set-has registers (bit_or n (register_bit (special name))) r numbers positive below)

pub is_in-has : (registers : List Register) (r : ℕ) → AreNumbers registers → 0 < r → r < 32 → is_in r registers ≡ has_register registers r
is_in-has registers r numbers positive below =
    set-has registers 0 r numbers positive below ∙ ap (λ b. (b == 1) || has_register registers r) (bit_at-zero r)

-- ---- what is gained

or_moved : (a b c : Bool) → (b || (a || c)) ≡ ((a || b) || c)
or_moved true true c = refl
or_moved true false c = refl
or_moved false b c = refl

pub gained-has : (registers : List Register) (known : ℕ → Bool) (r : ℕ) → gained registers known r ≡ (has_register registers r || known r)
gained-has [] known r = refl
gained-has (general d ∷ registers) known r =
    gained-has registers (gaining known d) r ∙ or_moved (d == r) (has_register registers r) (known r)
gained-has (special name ∷ registers) known r = gained-has registers known r

pub gained-append : (first second : List Register) (known : ℕ → Bool) → gained (first ++ second) known ≡ gained second (gained first known)
gained-append [] second known = refl
gained-append (general d ∷ first) second known = gained-append first second (gaining known d)
gained-append (special name ∷ first) second known = gained-append first second known
