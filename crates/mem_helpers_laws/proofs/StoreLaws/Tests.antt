-- The tests of an address.
use Rattle.std.proofs.Common.{◌≡◌, ℕ, ◌+◌, ◌-◌, ◌*◌, ◌/◌, ◌%◌, ◌^◌, ◌==◌, ◌<◌, ◌≤◌, bit_and, pos, int_lt, not, true, false, ap, ◌∙◌, arith, lit<}
use Rattle.std.proofs.lemmas.Bool.{lt-ltb, le-ltb, ne_eqb}
use Rattle.std.proofs.lemmas.Nat.{and_mask, and_block}
use Rattle.run_definition.specs.Words.{signed_of}
use Rattle.jvm_definition.specs.Effect.{same_integer}
use Rattle.emit_simulation_laws.proofs.Signs.{same-signed, below-zero}

-- a word is compared with 0
pub zero-test : (n : ℕ) → n < 2 ^ 32 → same_integer (signed_of n) (pos 0) ≡ (n == 0)
zero-test n word = same-signed n 0 word (lit< tt)

pub zero-is : (n : ℕ) → n ≡ 0 → same_integer (signed_of n) (pos 0) ≡ true
zero-is n is = ap (λ k. same_integer (signed_of k) (pos 0)) is

pub zero-is_not : (n : ℕ) → n < 2 ^ 32 → (n ≡ 0 → ⊥) → same_integer (signed_of n) (pos 0) ≡ false
zero-is_not n word ne = zero-test n word ∙ ne_eqb n 0 ne

pub negative-is : (a : ℕ) → a < 2 ^ 32 → 2 ^ 31 ≤ a → int_lt (signed_of a) (pos 0) ≡ true
negative-is a word high = below-zero a word ∙ ap not (le-ltb a (2 ^ 31) high)

pub negative-is_not : (a : ℕ) → a < 2 ^ 31 → int_lt (signed_of a) (pos 0) ≡ false
negative-is_not a low =
    let word : a < 2 ^ 32 = omega arith in below-zero a word ∙ ap not (lt-ltb a (2 ^ 31) low)

-- the top bit and the low bits of an address
pub top-and-low : (a k : ℕ) → a < 2 ^ 32 → 2 ^ k - 1 < 2 ^ 31 → a % 2 ^ 31 % 2 ^ k ≡ a % 2 ^ k → bit_and a (1 * 2 ^ 31 + (2 ^ k - 1)) ≡ a / 2 ^ 31 * 2 ^ 31 + a % 2 ^ k
top-and-low a k word mask same =
    let low : a % 2 ^ 31 < 2 ^ 31 = omega arith in
    let parts : a ≡ a / 2 ^ 31 * 2 ^ 31 + a % 2 ^ 31 = omega arith in
    ap (λ n. bit_and n (1 * 2 ^ 31 + (2 ^ k - 1))) parts
    ∙ and_block 31 (a / 2 ^ 31) 1 (a % 2 ^ 31) (2 ^ k - 1) low mask
    ∙ ap (λ n. n * 2 ^ 31 + bit_and (a % 2 ^ 31) (2 ^ k - 1)) (and_mask (a / 2 ^ 31) 1)
    ∙ ap (λ n. a / 2 ^ 31 % 2 * 2 ^ 31 + n) (and_mask (a % 2 ^ 31) k ∙ same)
    ∙ omega arith
