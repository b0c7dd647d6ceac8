-- Programs that differ only where no run comes.
use Rattle.std.specs.Prelude.{◌≡◌, ℕ, Bool, true, Some, None, IsSome}
use Rattle.jvm_definition.specs.declared.constant.Constant.TheVariants as constants
use Rattle.jvm_definition.specs.declared.instruction.Instruction.{Instruction}
use Rattle.jvm_definition.specs.declared.instruction.Instruction.TheVariants as instructions
use Rattle.jvm_definition.specs.declared.linked_line.LinkedLine.{LinkedLine}
use Rattle.jvm_definition.specs.declared.linked_method.LinkedMethod.{LinkedMethod}
use Rattle.jvm_definition.specs.Program.{Program, line_in}
use Rattle.jvm_type_inference.specs.Reached.{Reached}

-- an instruction pushes no text but those that pass a test, by the number of a class and a slot of its pool
abbrev pub PushesGood : (ℕ → ℕ → Bool) → Instruction → Type 0
PushesGood good (instructions.Push (constants.Text class slot)) = good class slot ≡ true
PushesGood good i = Unit {0}

-- a method with the same parameters that has each instruction that is reached
pub record HasReached (method other : LinkedMethod) : Type 0 where
  pub parameters : other.parameters ≡ method.parameters
  pub lines : (at : ℕ) (line : LinkedLine) → Reached method at
      → line_in method.lines at ≡ Some line → line_in other.lines at ≡ Some line

-- the same fields, the same instructions where a method's code may come, and the same texts that these push
pub record IsAlike (good : ℕ → ℕ → Bool) (p q : Program) : Type 0 where
  pub field : (f : ℕ) → q.field f ≡ p.field f
  pub first : q.first ≡ p.first
  pub characters : (class slot : ℕ) → good class slot ≡ true
      → q.characters class slot ≡ p.characters class slot
  pub methods : (m : ℕ) (method : LinkedMethod) → p.method m ≡ Some method
      → (other : LinkedMethod) × (q.method m ≡ Some other) × HasReached method other
  pub others : (m : ℕ) → p.method m ≡ None → q.method m ≡ None
  pub pushes : (m : ℕ) (method : LinkedMethod) (at : ℕ) (line : LinkedLine)
      → p.method m ≡ Some method → Reached method at → line_in method.lines at ≡ Some line
      → PushesGood good line.instruction
  -- an offset that is reached has an instruction, as in each method that is typed
  pub lined : (m : ℕ) (method : LinkedMethod) (at : ℕ) → p.method m ≡ Some method
      → Reached method at → IsSome (line_in method.lines at)
