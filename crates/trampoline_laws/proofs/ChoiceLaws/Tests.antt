-- The tests of the address in local variable 0.
use Rattle.std.proofs.Common.{◌≡◌, ℕ, ◌%◌, ◌^◌, ◌==◌, ◌<◌, ◌≤◌, bit_and, int_lt, pos, not, Bool, true, false, nat_lt, if◌then◌else◌, inl, inr, List, ◌∷◌, ◌++◌, refl, ap, ◌∙◌, sym, arith, lit<}
use Rattle.std.proofs.lemmas.Bool.{lt-ltb, cases_lt, ltb-true}
use Rattle.std.proofs.lemmas.Nat.{and_mask}
use Rattle.std.proofs.lemmas.Int.{ints}
use Rattle.run_definition.specs.Words.{IsWord, signed_of}
use Rattle.jvm_definition.specs.declared.branch_name.BranchName.TheVariants.{Ifne, IfIcmpge, IfIcmplt}
use Rattle.jvm_definition.specs.declared.int_arithmetic.IntArithmetic.TheVariants.{Iand}
use Rattle.jvm_definition.specs.declared.value.Value.TheVariants.{Int as int}
use Rattle.jvm_definition.specs.declared.local_kind.LocalKind.TheVariants as local_kinds
use Rattle.jvm_definition.specs.Program.{Program}
use Rattle.jvm_definition.specs.Effect.{Workspace, with_operands, pushes, moves_value, wrong, same_integer, chooses}
use Rattle.emit_steps.specs.declared.step.Step.{Step}
use Rattle.emit_steps.specs.declared.step.Step.TheVariants.{Skips}
use Rattle.emit_steps.specs.Outcomes.{later, after_instruction, after_branch, outcome, outcome_from}
use Rattle.emit_instructions.specs.Access.{push_word, arithmetic}
use Rattle.trampoline.specs.Trees.{reached_code}
use Rattle.trampoline.specs.Choosers.{load_address, unaligned_code, below_code}
use Rattle.emit_simulation_laws.proofs.Signs.{same-signed}
use Rattle.trampoline_laws.specs.Choosing.{is_below}

-- ---- what the tests are

aligned-test : (x : ℕ) → same_integer (signed_of (bit_and x 3)) (pos 0) ≡ (x % 4 == 0)
aligned-test x =
    let low : x % 4 < 2 ^ 32 = omega arith in
    ap (λ n. same_integer (signed_of n) (pos 0)) (and_mask x 2) ∙ same-signed (x % 4) 0 low (lit< tt)

signed-low : (x : ℕ) → x < 2 ^ 31 → signed_of x ≡ pos x
signed-low x low = grind (arith, ints)

-- words below 80000000 (hexadecimal) are compared as they are
pub below-low : (x first : ℕ) → x < 2 ^ 31 → first < 2 ^ 31 → is_below x first ≡ nat_lt x first
below-low x first low h = ap (λ z. int_lt z (signed_of first)) (signed-low x low) ∙ ap (λ z. int_lt (pos x) z) (signed-low first h)

-- others are below all these
pub high-below : (x first : ℕ) → IsWord x → 2 ^ 31 ≤ x → first < 2 ^ 31 → is_below x first ≡ true
high-below x first word high h = grind (arith, ints)

-- what is below an address is below what is above that
pub below-more : (x a b : ℕ) → IsWord x → a ≤ b → b < 2 ^ 31 → is_below x a ≡ true → is_below x b ≡ true
below-more x a b word more low is = elim (cases_lt x (2 ^ 31)) [
  | inl l ↦
      let low_a : a < 2 ^ 31 = omega arith in
      let less : x < a = ltb-true x a (sym (below-low x a l low_a) ∙ is) in
      let less_b : x < b = omega arith in
      below-low x b l low ∙ lt-ltb x b less_b
  | inr h ↦ high-below x b word h low
]

-- ---- code with the tests

module _ (program : Program) (words x : ℕ) (code : List Step) (w : Workspace) (is : w.locals 0 ≡ int x) where
  loaded : (behind : List Step) → outcome program words (load_address ∷ behind) w ≡ later (outcome program words behind (with_operands w (int x ∷ w.operands)))
  loaded behind =
      ap (λ v. after_instruction w (if moves_value local_kinds.Int v then pushes w v w.operands else wrong) (outcome_from program words behind 0)) is

  branched : (b : Bool) (v : Workspace) (over : ℕ) → after_branch v (chooses b v w.operands) (outcome_from program words code 0) (outcome_from program words code over) ≡ later (outcome_from program words code (if b then over else 0) (with_operands v w.operands))
  branched true v over = refl
  branched false v over = refl

  -- the address is not below a start
  pub reached : (first over : ℕ) → outcome program words (reached_code first over ++ code) w ≡ later (later (later (outcome_from program words code (if not (is_below x first) then over else 0) w)))
  reached first over =
      loaded (push_word first ∷ Skips IfIcmpge over ∷ code) ∙ ap (λ o. later (later o)) (branched (not (is_below x first)) (with_operands w (int first ∷ int x ∷ w.operands)) over)

  -- it is below an address
  pub below : (bound over : ℕ) → outcome program words (below_code bound over ++ code) w ≡ later (later (later (outcome_from program words code (if is_below x bound then over else 0) w)))
  below bound over =
      loaded (push_word bound ∷ Skips IfIcmplt over ∷ code) ∙ ap (λ o. later (later o)) (branched (is_below x bound) (with_operands w (int bound ∷ int x ∷ w.operands)) over)

  -- it is no multiple of 4
  pub unaligned : (over : ℕ) → outcome program words (unaligned_code over ++ code) w ≡ later (later (later (later (outcome_from program words code (if not (x % 4 == 0) then over else 0) w))))
  unaligned over =
      loaded (push_word 3 ∷ arithmetic Iand ∷ Skips Ifne over ∷ code)
      ∙ ap (λ o. later (later (later o))) (branched (not (same_integer (signed_of (bit_and x 3)) (pos 0))) (with_operands w (int (bit_and x 3) ∷ w.operands)) over)
      ∙ ap (λ b. later (later (later (later (outcome_from program words code (if not b then over else 0) w))))) (aligned-test x)
