-- What is computed with words, on both machines.
use Rattle.std.proofs.Common.{◌≡◌, ℕ, ◌-◌, ◌*◌, ◌/◌, ◌%◌, ◌^◌, ◌==◌, ◌<◌, nat_lt, nat_le, bit_xor, not, ℤ, pos, negsuc, int_lt, int_le, refl, ap, subst, sym, ◌∙◌, arith, lit<}
use Rattle.std.specs.Int.Bits.{xor_add_and}
use Rattle.std.specs.Int.Signed.{shr_z}
use Rattle.std.proofs.lemmas.Int.{ints}
use Rattle.std.proofs.lemmas.Nat.{and_le_l, and_mask, or_of_32, xor_lt, shr_le}
use Rattle.run_definition.specs.Words.{IsWord, signed_of, unsigned_of}
use Rattle.nv_words.proofs.LaneLemmas.{unsigned_of-signed_of}
use Rattle.mips_definition.specs.Arithmetic.{shifted, variable_shifted}
use Rattle.mips_definition.specs.declared.names.shift_name.ShiftName.{ShiftName}
use Rattle.mips_definition.specs.declared.names.shift_name.ShiftName.TheVariants.{Sll, Srl, Sra}
use Rattle.mips_definition.specs.declared.names.variable_shift_name.VariableShiftName.{VariableShiftName}
use Rattle.mips_definition.specs.declared.names.variable_shift_name.VariableShiftName.TheVariants.{Sllv, Srlv, Srav}
use Rattle.mips_definition.specs.Targets.{extended_imm}
use Rattle.jvm_definition.specs.declared.int_arithmetic.IntArithmetic.{IntArithmetic}
use Rattle.jvm_definition.specs.declared.int_arithmetic.IntArithmetic.TheVariants.{Iadd, Isub, Imul, Iand, Ior, Ixor}
use Rattle.jvm_definition.specs.declared.int_shift.IntShift.{IntShift}
use Rattle.jvm_definition.specs.declared.int_shift.IntShift.TheVariants.{Ishl, Ishr, Iushr}
use Rattle.jvm_definition.specs.Words.{int_result, int_shifted}
use Rattle.jvm_definition.specs.Effect.{same_integer}
use Rattle.emit_instructions.specs.Access.{turned}
use Rattle.emit_instructions.specs.Computing.{shift_name, variable_shift_name}
use Rattle.emit_simulation_laws.proofs.Signs.{same-signed}

-- ---- results are words

pub int-result-word : (name : IntArithmetic) (a b : ℕ) → IsWord a → IsWord b → IsWord (int_result name a b)
int-result-word Iadd a b is it = omega arith
int-result-word Isub a b is it = omega arith
int-result-word Imul a b is it = omega arith
int-result-word Iand a b is it = let less = and_le_l a b in omega (arith, less)
int-result-word Ior a b is it = or_of_32 a b is it
int-result-word Ixor a b is it = xor_lt 32 a b is it

pub extended-word : (imm : ℕ) → imm < 2 ^ 16 → IsWord (extended_imm imm)
extended-word imm small = grind arith

-- ---- the complement

pub nor-is : (n : ℕ) → IsWord n → bit_xor n 0xFFFF_FFFF ≡ 2 ^ 32 - 1 - n
nor-is n is = omega (arith, xor_add_and n 4294967295, and_mask n 32)

-- ---- comparisons without signs

pub turned-order : (a b : ℕ) → IsWord a → IsWord b → int_lt (signed_of (turned a)) (signed_of (turned b)) ≡ nat_lt a b
turned-order a b is it = grind (arith, ints)

pub above-zero : (a : ℕ) → IsWord a → not (same_integer (signed_of a) (pos 0)) ≡ nat_lt 0 a
above-zero a is = ap not (same-signed a 0 is (lit< tt)) ∙ not-zero a
  where
    not-zero : (n : ℕ) → not (n == 0) ≡ nat_lt 0 n
    not-zero n = grind arith

pub below-one : (a : ℕ) → IsWord a → same_integer (signed_of a) (pos 0) ≡ nat_lt a 1
below-one a is = same-signed a 0 is (lit< tt) ∙ is-zero a
  where
    is-zero : (n : ℕ) → (n == 0) ≡ nat_lt n 1
    is-zero n = grind arith

-- ---- comparisons of traps

pub not-below : (x y : ℤ) → not (int_lt x y) ≡ int_le y x
not-below x y = grind (arith, ints)

pub not-below_nat : (a b : ℕ) → not (nat_lt a b) ≡ nat_le b a
not-below_nat a b = grind arith

-- ---- shifts

pub no-shift : (z : ℤ) → shr_z z 1 ≡ z
no-shift (pos n) = ap pos (omega arith)
no-shift (negsuc n) = ap negsuc (omega arith)

shr-word : (z : ℤ) (k : ℕ) → IsWord (unsigned_of z) → IsWord (unsigned_of (shr_z z (2 ^ k)))
shr-word (pos n) k is = let less = shr_le n k in omega (arith, less)
shr-word (negsuc n) k is = omega arith

pub sra-word : (a k : ℕ) → IsWord a → IsWord (unsigned_of (shr_z (signed_of a) (2 ^ k)))
sra-word a k is = shr-word (signed_of a) k (subst IsWord (sym (unsigned_of-signed_of a is)) is)

pub int-shifted-word : (name : IntShift) (a n : ℕ) → IsWord a → IsWord (int_shifted name a n)
int-shifted-word Ishl a n is = omega arith
int-shifted-word Ishr a n is = sra-word a (n % 32) is
int-shifted-word Iushr a n is = let less = shr_le a (n % 32) in omega (arith, less)

whole : (n : ℕ) → n < 32 → n % 32 ≡ n
whole n few = omega arith

-- an amount below 32 is taken as it is
pub shift-is : (name : ShiftName) (a n : ℕ) → n < 32 → int_shifted (shift_name name) a n ≡ shifted name a n
shift-is Sll a n few = ap (λ m. a * 2 ^ m % 2 ^ 32) (whole n few)
shift-is Srl a n few = ap (λ m. a / 2 ^ m) (whole n few)
shift-is Sra a n few = ap (λ m. unsigned_of (shr_z (signed_of a) (2 ^ m))) (whole n few)

pub shifted-word : (name : ShiftName) (a n : ℕ) → IsWord a → n < 32 → IsWord (shifted name a n)
shifted-word name a n is few = subst IsWord (shift-is name a n few) (int-shifted-word (shift_name name) a n is)

pub variable-shift-is : (name : VariableShiftName) (a n : ℕ) → int_shifted (variable_shift_name name) a n ≡ variable_shifted name a n
variable-shift-is Sllv a n = refl
variable-shift-is Srlv a n = refl
variable-shift-is Srav a n = refl

-- a shift by 0 is a move
pub shift-none : (name : ShiftName) (a : ℕ) → IsWord a → a ≡ shifted name a 0
shift-none Sll a is = omega arith
shift-none Srl a is = omega arith
shift-none Sra a is = sym (ap unsigned_of (no-shift (signed_of a)) ∙ unsigned_of-signed_of a is)
