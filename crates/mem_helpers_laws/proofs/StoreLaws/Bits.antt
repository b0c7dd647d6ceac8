-- Bits of a word that are replaced by others.
use Rattle.std.proofs.Common.{◌≡◌, ℕ, ◌+◌, ◌-◌, ◌*◌, ◌/◌, ◌%◌, ◌^◌, ◌<◌, bit_and, bit_or, refl, ap, sym, ◌∙◌, arith}
use Rattle.std.proofs.Math.Nat.{mul_assoc, mul_comm}
use Rattle.std.proofs.lemmas.Nat.{and_comm, or_comm, or_shifted, or_block, and-not, pow-add, shr_split, shr-shr, mod_below, pow_pos}
use Rattle.std.proofs.lemmas.Nat.Bits.{and_high}

-- the number with j of its bits, from k on, as those of another
abbrev pub replaced : ℕ → ℕ → ℕ → ℕ → ℕ
replaced w j k b = w / 2 ^ (k + j) * 2 ^ (k + j) + (b * 2 ^ k + w % 2 ^ k)

-- a number's parts: above those bits, those bits, and below them
parts : (w j k : ℕ) → w / 2 ^ (k + j) * 2 ^ (k + j) + (w / 2 ^ k % 2 ^ j * 2 ^ k + w % 2 ^ k) ≡ w
parts w j k =
    let whole = shr_split w k in
    let upper : w / 2 ^ (k + j) * 2 ^ j + w / 2 ^ k % 2 ^ j ≡ w / 2 ^ k = ap (λ x. x * 2 ^ j + w / 2 ^ k % 2 ^ j) (sym (shr-shr w k j)) ∙ shr_split (w / 2 ^ k) j in
    let wide : w / 2 ^ (k + j) * 2 ^ (k + j) ≡ w / 2 ^ (k + j) * 2 ^ j * 2 ^ k = ap (λ p. w / 2 ^ (k + j) * p) (pow-add 2 k j ∙ mul_comm (2 ^ k) (2 ^ j)) ∙ sym (mul_assoc (w / 2 ^ (k + j)) (2 ^ j) (2 ^ k)) in
    omega (arith, whole, ap (λ x. x * 2 ^ k) upper, wide)

-- those bits are cleared
pub cleared-is : (w j k : ℕ) → w < 2 ^ 32 → 2 ^ (j + k) - 2 ^ k < 2 ^ 32 → bit_and w (2 ^ 32 - 1 - (2 ^ (j + k) - 2 ^ k)) ≡ w / 2 ^ (k + j) * 2 ^ (k + j) + w % 2 ^ k
cleared-is w j k word mask =
    let both = and-not 32 (2 ^ (j + k) - 2 ^ k) w mask word in
    let cut : bit_and (2 ^ (j + k) - 2 ^ k) w ≡ w / 2 ^ k % 2 ^ j * 2 ^ k = and_comm (2 ^ (j + k) - 2 ^ k) w ∙ and_high w j k in
    and_comm w (2 ^ 32 - 1 - (2 ^ (j + k) - 2 ^ k)) ∙ omega (arith, both, cut, parts w j k)

or_zero : (n : ℕ) → bit_or 0 n ≡ n
or_zero n = refl

-- and set
pub set-is : (high b low j k : ℕ) → b < 2 ^ j → low < 2 ^ k → bit_or (high * 2 ^ (k + j) + low) (b * 2 ^ k) ≡ high * 2 ^ (k + j) + (b * 2 ^ k + low)
set-is high b low j k hb hl =
    let wide : high * 2 ^ (k + j) ≡ high * 2 ^ j * 2 ^ k = ap (λ p. high * p) (pow-add 2 k j ∙ mul_comm (2 ^ k) (2 ^ j)) ∙ sym (mul_assoc high (2 ^ j) (2 ^ k)) in
    let none : 0 < 2 ^ k = omega (arith, hl) in
    ap (λ x. bit_or (x + low) (b * 2 ^ k)) wide
    ∙ ap (λ x. bit_or (high * 2 ^ j * 2 ^ k + low) x) (let e : b * 2 ^ k ≡ b * 2 ^ k + 0 = omega arith in e)
    ∙ or_block k (high * 2 ^ j) b low 0 hl none
    ∙ ap (λ x. x * 2 ^ k + bit_or low 0) (or_shifted high j b hb)
    ∙ ap (λ x. (high * 2 ^ j + b) * 2 ^ k + x) (or_comm low 0 ∙ or_zero low)
    ∙ omega (arith, wide)

-- both
pub replaced-is : (w b j k : ℕ) → w < 2 ^ 32 → 2 ^ (j + k) - 2 ^ k < 2 ^ 32 → b < 2 ^ j → bit_or (bit_and w (2 ^ 32 - 1 - (2 ^ (j + k) - 2 ^ k))) (b * 2 ^ k) ≡ replaced w j k b
replaced-is w b j k word mask hb =
    ap (λ x. bit_or x (b * 2 ^ k)) (cleared-is w j k word mask)
    ∙ set-is (w / 2 ^ (k + j)) b (w % 2 ^ k) j k hb (mod_below w (2 ^ k) (pow_pos k))

-- the same of bits that are there already
pub replaced-as : (u mask x b k y z : ℕ) → x ≡ b * 2 ^ k → bit_or (bit_and u mask) (b * 2 ^ k) ≡ y → y ≡ z → bit_or (bit_and u mask) x ≡ z
replaced-as u mask x b k y z placed is same = ap (bit_or (bit_and u mask)) placed ∙ is ∙ same

-- and of bits that lose none where they are shifted
pub whole-shifted : (u b k mask x y : ℕ) → b * 2 ^ k % 2 ^ 32 ≡ b * 2 ^ k → bit_or (bit_and u mask) (b * 2 ^ k) ≡ x → x ≡ y → bit_or (bit_and u mask) (b * 2 ^ k % 2 ^ 32) ≡ y
whole-shifted u b k mask x y whole is same = replaced-as u mask (b * 2 ^ k % 2 ^ 32) b k x y whole is same
