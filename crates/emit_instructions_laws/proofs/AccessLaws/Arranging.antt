-- What is pushed for a helper method, and its call.
use Rattle.std.proofs.Common.{◌≡◌, ℕ, suc, ◌+◌, ◌%◌, ◌^◌, ◌==◌, ◌≤◌, Bool, true, false, if◌then◌else◌, List, [], ◌∷◌, ◌++◌, IsTrue, refl, ap, ◌∙◌, arith, lit≤}
use Rattle.std.proofs.lemmas.Bool.{eqb-true}
use Rattle.run_definition.specs.declared.order.Order.{Order}
use Rattle.mips_definition.specs.State.{State, register}
use Rattle.jvm_definition.specs.declared.int_arithmetic.IntArithmetic.TheVariants.{Iadd}
use Rattle.jvm_definition.specs.declared.value.Value.{Value}
use Rattle.jvm_definition.specs.declared.value.Value.TheVariants.{Int as int}
use Rattle.jvm_definition.specs.declared.kind.Kind.TheVariants.{Int}
use Rattle.jvm_definition.specs.declared.local_kind.LocalKind.TheVariants as local_kinds
use Rattle.jvm_definition.specs.declared.instruction.Instruction.TheVariants as instructions
use Rattle.jvm_definition.specs.declared.instruction.Instruction.TheVariants.{Call}
use Rattle.jvm_definition.specs.Program.{Program}
use Rattle.jvm_definition.specs.Effect.{Workspace, enters, instruction_effect, calls, arguments, last_first, with_operands}
use Rattle.emit_steps.specs.declared.step.Step.{Step}
use Rattle.emit_steps.specs.declared.step.Step.TheVariants.{Does}
use Rattle.emit_steps.specs.Outcomes.{ended, outcome, stays_within}
use Rattle.emit_layout.specs.FieldNumbers.{register_field}
use Rattle.emit_instructions.specs.Access.{get_register, keeps, get_field, push_word, arithmetic}
use Rattle.emit_instructions.specs.Accessing.{address_code}
use Rattle.emit_simulation_laws.specs.Knowing.{IsKnown}
use Rattle.emit_simulation_laws.specs.Helpers.{IsHelper, helper_parameters}
use Rattle.emit_simulation_laws.specs.Holding.{HoldsOn}
use Rattle.emit_simulation_laws.proofs.RegisterLaws.Reading.{known-word}
use Rattle.emit_instructions_laws.proofs.InstructionLaws.Running.{gets}

-- Code comes to its end with a workspace within so many instructions.
pub record Brings (program : Program) (words most : ℕ) (code : List Step) (w v : Workspace) : Type 0 where
  pub turns : ℕ
  pub comes : outcome program words code w ≡ ended turns v
  pub in_time : turns ≤ most

pub brought-within : (program : Program) (words most more : ℕ) (code : List Step) (w v : Workspace) → most ≤ more → Brings program words most code w v → Brings program words more code w v
brought-within program words most more code w v fewer brought =
    let few = brought.in_time in
    record { turns = brought.turns; comes = brought.comes; in_time = omega (arith, few, fewer) }

-- ---- a register that is pushed first, and an address with the instruction's own

abbrev pub given_code : ℕ → ℕ → ℕ → ℕ → List Step
given_code bank rs offset pc = address_code bank rs offset ++ push_word pc ∷ []

module _ (program : Program) (words bank : ℕ) (known : ℕ → Bool) (w : Workspace) (s : State) (h : HoldsOn bank known w s) where
  -- the address of an access, and the instruction's own
  pub address-brought : (rs offset pc : ℕ) (operands : List Value) → IsKnown known rs → Brings program words 4 (given_code bank rs offset pc) (with_operands w operands) (with_operands w (int pc ∷ int ((register s rs + offset) % 2 ^ 32) ∷ operands))
  address-brought rs offset pc operands is = by_test (offset == 0) refl
    where
      by_test : (b : Bool) → (offset == 0) ≡ b → Brings program words 4 ((if b then get_register bank rs ∷ [] else get_register bank rs ∷ push_word offset ∷ arithmetic Iadd ∷ []) ++ push_word pc ∷ []) (with_operands w operands) (with_operands w (int pc ∷ int ((register s rs + offset) % 2 ^ 32) ∷ operands))
      by_test true e =
          let none : offset ≡ 0 = eqb-true offset 0 e in
          let word = known-word bank rs known w s h is in
          let same : register s rs ≡ (register s rs + offset) % 2 ^ 32 = omega (arith, none, word) in
          record {
            turns = 2;
            comes = gets program words bank known w s h rs (push_word pc ∷ []) operands (ended 1 (with_operands w (int pc ∷ int ((register s rs + offset) % 2 ^ 32) ∷ operands))) is (ap (λ a. ended 1 (with_operands w (int pc ∷ int a ∷ operands))) same);
            in_time = lit≤ tt;
          }
      by_test false e = record {
        turns = 4;
        comes = gets program words bank known w s h rs (push_word offset ∷ arithmetic Iadd ∷ push_word pc ∷ []) operands (ended 3 (with_operands w (int pc ∷ int ((register s rs + offset) % 2 ^ 32) ∷ operands))) is refl;
        in_time = lit≤ tt;
      }

  -- a register before code
  pub register-brought : (r most : ℕ) (code : List Step) (operands : List Value) (v : Workspace) → IsKnown known r → Brings program words most code (with_operands w (int (register s r) ∷ operands)) v → Brings program words (most + 1) (get_register bank r ∷ code) (with_operands w operands) v
  register-brought r most code operands v is brought =
      let few = brought.in_time in
      record {
        turns = suc brought.turns;
        comes = gets program words bank known w s h r code operands (ended brought.turns v) is brought.comes;
        in_time = omega (arith, few);
      }

-- ---- no branch goes out of it

pub register-within : (bank r : ℕ) (code : List Step) → IsTrue (stays_within code) → IsTrue (stays_within (get_register bank r ∷ code))
register-within bank r code within = by_number (r == 0)
  where
    by_bank : (b : Bool) → IsTrue (stays_within ((if b then Does (instructions.Load local_kinds.Int r) else get_field (register_field r)) ∷ code))
    by_bank true = within
    by_bank false = within

    by_number : (b : Bool) → IsTrue (stays_within ((if b then push_word 0 else if keeps bank r then Does (instructions.Load local_kinds.Int r) else get_field (register_field r)) ∷ code))
    by_number true = within
    by_number false = by_bank (keeps bank r)

pub address-within : (bank rs offset pc : ℕ) → IsTrue (stays_within (given_code bank rs offset pc))
address-within bank rs offset pc = by_test (offset == 0)
  where
    by_test : (b : Bool) → IsTrue (stays_within ((if b then get_register bank rs ∷ [] else get_register bank rs ∷ push_word offset ∷ arithmetic Iadd ∷ []) ++ push_word pc ∷ []))
    by_test true = register-within bank rs (push_word pc ∷ []) refl
    by_test false = register-within bank rs (push_word offset ∷ arithmetic Iadd ∷ push_word pc ∷ []) refl

-- ---- the call

module _ (program : Program) (words : ℕ) (order : Order) (h : ℕ) (helper : IsHelper program order h) (w : Workspace) (operands : List Value) where
  pub enters-with-two : (x y : ℕ) → helper_parameters h ≡ Int ∷ Int ∷ [] → instruction_effect program words (Call h) (with_operands w (int y ∷ int x ∷ operands)) ≡ enters h (int x ∷ int y ∷ []) (with_operands w operands)
  enters-with-two x y two =
      ap (λ m. calls h m (with_operands w (int y ∷ int x ∷ operands))) helper.there
      ∙ ap (λ kinds. arguments w.heap (last_first kinds []) (int y ∷ int x ∷ operands) [] (λ given rest. enters h given (with_operands w rest))) (helper.parameters_are ∙ two)

  pub enters-with-three : (x y z : ℕ) → helper_parameters h ≡ Int ∷ Int ∷ Int ∷ [] → instruction_effect program words (Call h) (with_operands w (int z ∷ int y ∷ int x ∷ operands)) ≡ enters h (int x ∷ int y ∷ int z ∷ []) (with_operands w operands)
  enters-with-three x y z three =
      ap (λ m. calls h m (with_operands w (int z ∷ int y ∷ int x ∷ operands))) helper.there
      ∙ ap (λ kinds. arguments w.heap (last_first kinds []) (int z ∷ int y ∷ int x ∷ operands) [] (λ given rest. enters h given (with_operands w rest))) (helper.parameters_are ∙ three)
