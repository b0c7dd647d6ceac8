-- A word whose bytes are turned round, as code computes it.
use Rattle.std.proofs.Common.{◌≡◌, ℕ, ◌+◌, ◌*◌, ◌/◌, ◌%◌, ◌^◌, ◌<◌, bit_and, bit_or, ap, ◌∙◌, arith}
use Rattle.std.proofs.lemmas.Nat.{or_comm, or_shifted}
use Rattle.std.proofs.lemmas.Nat.Bits.{and_high}
use Rattle.run_definition.specs.Words.{IsWord}
use Rattle.run_definition.specs.declared.order.Order.TheVariants.{Little}
use Rattle.mips_definition.specs.Memory.{word_of_lanes}

-- as code computes it
abbrev pub turned_round : ℕ → ℕ
turned_round w =
    bit_or (bit_or (bit_or (w / 2 ^ 24) (bit_and (w / 2 ^ 8) 0xFF00)) (bit_and w 0xFF00 * 2 ^ 8 % 2 ^ 32)) (w * 2 ^ 24 % 2 ^ 32)

-- a number is joined to one whose bits lie below it
pub joined : (low high k : ℕ) → low < 2 ^ k → bit_or low (high * 2 ^ k) ≡ high * 2 ^ k + low
joined low high k below = or_comm low (high * 2 ^ k) ∙ or_shifted high k low below

pub turned_round-is : (w : ℕ) → IsWord w → turned_round w ≡ word_of_lanes Little w
turned_round-is w word =
    let first : bit_and (w / 2 ^ 8) 0xFF00 ≡ w / 2 ^ 8 / 2 ^ 8 % 2 ^ 8 * 2 ^ 8 = and_high (w / 2 ^ 8) 8 8 in
    let second : bit_and w 0xFF00 * 2 ^ 8 % 2 ^ 32 ≡ w / 2 ^ 8 % 2 ^ 8 * 2 ^ 16 = omega (arith, and_high w 8 8) in
    let third : w * 2 ^ 24 % 2 ^ 32 ≡ w % 2 ^ 8 * 2 ^ 24 = omega arith in
    let one : w / 2 ^ 24 < 2 ^ 8 = omega arith in
    let two : w / 2 ^ 8 / 2 ^ 8 % 2 ^ 8 * 2 ^ 8 + w / 2 ^ 24 < 2 ^ 16 = omega arith in
    let three : w / 2 ^ 8 % 2 ^ 8 * 2 ^ 16 + (w / 2 ^ 8 / 2 ^ 8 % 2 ^ 8 * 2 ^ 8 + w / 2 ^ 24) < 2 ^ 24 = omega arith in
    ap (λ x. bit_or (bit_or (bit_or (w / 2 ^ 24) x) (bit_and w 0xFF00 * 2 ^ 8 % 2 ^ 32)) (w * 2 ^ 24 % 2 ^ 32)) first
    ∙ ap (λ x. bit_or (bit_or x (bit_and w 0xFF00 * 2 ^ 8 % 2 ^ 32)) (w * 2 ^ 24 % 2 ^ 32)) (joined (w / 2 ^ 24) (w / 2 ^ 8 / 2 ^ 8 % 2 ^ 8) 8 one)
    ∙ ap (λ x. bit_or (bit_or (w / 2 ^ 8 / 2 ^ 8 % 2 ^ 8 * 2 ^ 8 + w / 2 ^ 24) x) (w * 2 ^ 24 % 2 ^ 32)) second
    ∙ ap (λ x. bit_or x (w * 2 ^ 24 % 2 ^ 32)) (joined (w / 2 ^ 8 / 2 ^ 8 % 2 ^ 8 * 2 ^ 8 + w / 2 ^ 24) (w / 2 ^ 8 % 2 ^ 8) 16 two)
    ∙ ap (λ x. bit_or (w / 2 ^ 8 % 2 ^ 8 * 2 ^ 16 + (w / 2 ^ 8 / 2 ^ 8 % 2 ^ 8 * 2 ^ 8 + w / 2 ^ 24)) x) third
    ∙ joined (w / 2 ^ 8 % 2 ^ 8 * 2 ^ 16 + (w / 2 ^ 8 / 2 ^ 8 % 2 ^ 8 * 2 ^ 8 + w / 2 ^ 24)) (w % 2 ^ 8) 24 three
    ∙ omega arith
