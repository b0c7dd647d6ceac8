-- The conditions of branches, as tests of the class machine.
use Rattle.std.proofs.Common.{◌≡◌, ℕ, ℤ, pos, int_lt, int_le, ◌==◌, Bool, true, false, not, List, ◌∷◌, refl, ap, sym, ◌∙◌, arith}
use Rattle.std.proofs.lemmas.Int.{ints}
use Rattle.run_definition.specs.Words.{IsWord, signed_of}
use Rattle.mips_definition.specs.Branches.{equal_taken, zero_taken, sign_taken}
use Rattle.mips_definition.specs.declared.names.branch_equal_name.BranchEqualName.{BranchEqualName}
use Rattle.mips_definition.specs.declared.names.branch_equal_name.BranchEqualName.TheVariants.{Beq, Bne, Beql, Bnel}
use Rattle.mips_definition.specs.declared.names.branch_zero_name.BranchZeroName.{BranchZeroName}
use Rattle.mips_definition.specs.declared.names.branch_zero_name.BranchZeroName.TheVariants.{Blez, Bgtz, Blezl, Bgtzl}
use Rattle.mips_definition.specs.declared.names.branch_sign_name.BranchSignName.{BranchSignName}
use Rattle.mips_definition.specs.declared.names.branch_sign_name.BranchSignName.TheVariants.{Bltz, Bgez, Bltzal, Bgezal, Bltzl, Bgezl, Bltzall, Bgezall}
use Rattle.jvm_definition.specs.declared.value.Value.{Value}
use Rattle.jvm_definition.specs.declared.value.Value.TheVariants.{Int as int}
use Rattle.jvm_definition.specs.Effect.{Workspace, with_operands, branches, chooses}
use Rattle.emit_instructions.specs.Branching.{equal_test, zero_test, sign_test}
use Rattle.word_emitter.specs.Exits.{unless}
use Rattle.emit_simulation_laws.proofs.Signs.{same-signed}

module _ (w : Workspace) (rest : List Value) where
  abbrev over : ℕ → ℕ → Workspace
  over a b = with_operands w (int b ∷ int a ∷ rest)

  pub equal-chooses : (name : BranchEqualName) (a b : ℕ) → IsWord a → IsWord b → branches (equal_test name) (over a b) ≡ chooses (equal_taken name a b) (over a b) rest
  equal-chooses Beq a b is it = ap (λ t. chooses t (over a b) rest) (same-signed a b is it)
  equal-chooses Bne a b is it = ap (λ t. chooses (not t) (over a b) rest) (same-signed a b is it)
  equal-chooses Beql a b is it = ap (λ t. chooses t (over a b) rest) (same-signed a b is it)
  equal-chooses Bnel a b is it = ap (λ t. chooses (not t) (over a b) rest) (same-signed a b is it)

  not-above : (z : ℤ) → not (int_lt (pos 0) z) ≡ int_le z (pos 0)
  not-above z = grind (arith, ints)

  not-below : (z : ℤ) → not (int_lt z (pos 0)) ≡ int_le (pos 0) z
  not-below z = grind (arith, ints)

  abbrev above : ℕ → Workspace
  above a = with_operands w (int a ∷ rest)

  pub zero-chooses : (name : BranchZeroName) (a : ℕ) → branches (zero_test name) (above a) ≡ chooses (zero_taken name (signed_of a)) (above a) rest
  zero-chooses Blez a = ap (λ t. chooses t (above a) rest) (not-above (signed_of a))
  zero-chooses Bgtz a = refl
  zero-chooses Blezl a = ap (λ t. chooses t (above a) rest) (not-above (signed_of a))
  zero-chooses Bgtzl a = refl

  pub sign-chooses : (name : BranchSignName) (a : ℕ) → branches (sign_test name) (above a) ≡ chooses (sign_taken name (signed_of a)) (above a) rest
  sign-chooses Bltz a = refl
  sign-chooses Bgez a = ap (λ t. chooses t (above a) rest) (not-below (signed_of a))
  sign-chooses Bltzal a = refl
  sign-chooses Bgezal a = ap (λ t. chooses t (above a) rest) (not-below (signed_of a))
  sign-chooses Bltzl a = refl
  sign-chooses Bgezl a = ap (λ t. chooses t (above a) rest) (not-below (signed_of a))
  sign-chooses Bltzall a = refl
  sign-chooses Bgezall a = ap (λ t. chooses t (above a) rest) (not-below (signed_of a))

  -- ---- the other test is passed where a branch is not taken

  twice : (b : Bool) → not (not b) ≡ b
  twice true = refl
  twice false = refl

  pub equal-fails : (name : BranchEqualName) (a b : ℕ) → IsWord a → IsWord b → branches (unless (equal_test name)) (over a b) ≡ chooses (not (equal_taken name a b)) (over a b) rest
  equal-fails Beq a b is it = ap (λ t. chooses (not t) (over a b) rest) (same-signed a b is it)
  equal-fails Bne a b is it = ap (λ t. chooses t (over a b) rest) (same-signed a b is it ∙ sym (twice (a == b)))
  equal-fails Beql a b is it = ap (λ t. chooses (not t) (over a b) rest) (same-signed a b is it)
  equal-fails Bnel a b is it = ap (λ t. chooses t (over a b) rest) (same-signed a b is it ∙ sym (twice (a == b)))

  above-fails : (z : ℤ) → int_lt (pos 0) z ≡ not (int_le z (pos 0))
  above-fails z = grind (arith, ints)

  below-fails : (z : ℤ) → int_lt z (pos 0) ≡ not (int_le (pos 0) z)
  below-fails z = grind (arith, ints)

  pub zero-fails : (name : BranchZeroName) (a : ℕ) → branches (unless (zero_test name)) (above a) ≡ chooses (not (zero_taken name (signed_of a))) (above a) rest
  zero-fails Blez a = ap (λ t. chooses t (above a) rest) (above-fails (signed_of a))
  zero-fails Bgtz a = refl
  zero-fails Blezl a = ap (λ t. chooses t (above a) rest) (above-fails (signed_of a))
  zero-fails Bgtzl a = refl

  pub sign-fails : (name : BranchSignName) (a : ℕ) → branches (unless (sign_test name)) (above a) ≡ chooses (not (sign_taken name (signed_of a))) (above a) rest
  sign-fails Bltz a = refl
  sign-fails Bgez a = ap (λ t. chooses t (above a) rest) (below-fails (signed_of a))
  sign-fails Bltzal a = refl
  sign-fails Bgezal a = ap (λ t. chooses t (above a) rest) (below-fails (signed_of a))
  sign-fails Bltzl a = refl
  sign-fails Bgezl a = ap (λ t. chooses t (above a) rest) (below-fails (signed_of a))
  sign-fails Bltzall a = refl
  sign-fails Bgezall a = ap (λ t. chooses t (above a) rest) (below-fails (signed_of a))
