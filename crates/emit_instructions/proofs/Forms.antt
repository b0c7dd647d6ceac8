-- The form of code that reaches registers over a bank: its parts, which are the same whatever the bank is, and at most how much it weighs.
use Rattle.std.proofs.Common.{◌≡◌, ℕ, ◌+◌, ◌≤◌, max, ◌==◌, Bool, true, false, if◌then◌else◌, List, [], ◌∷◌, ◌++◌, map, arith}
use Rattle.jvm_definition.specs.declared.branch_name.BranchName.{BranchName}
use Rattle.jvm_definition.specs.declared.stack_name.StackName.TheVariants.{Pop}
use Rattle.jvm_definition.specs.declared.local_kind.LocalKind.TheVariants as local_kinds
use Rattle.jvm_definition.specs.declared.instruction.Instruction.{Instruction}
use Rattle.jvm_definition.specs.declared.instruction.Instruction.TheVariants as instructions
use Rattle.emit_steps.specs.declared.step.Step.{Step}
use Rattle.emit_steps.specs.declared.step.Step.TheVariants.{Does, Skips}
use Rattle.emit_layout.specs.FieldNumbers.{register_field}
use Rattle.emit_instructions.specs.Access.{push_word, get_field, put_field, keeps, get_register, put_register}

-- an instruction that is known; a branch over so many steps as there are over a bank; a word that may be any; a register that is read or
-- written
pub data Part : Type 0 where
  Acts : Instruction → Part
  Passes : BranchName → (ℕ → ℕ) → Part
  Word : ℕ → Part
  Reads : ℕ → Part
  Writes : ℕ → Part

abbrev pub step_of : ℕ → Part → Step
step_of bank (Acts instruction) = Does instruction
step_of bank (Passes name k) = Skips name (k bank)
step_of bank (Word w) = push_word w
step_of bank (Reads r) = get_register bank r
step_of bank (Writes r) = put_register bank r

-- parts, two forms one after the other, or one of two by a test
pub data Form : Type 0 where
  Straight : List Part → Form
  Both : Form → Form → Form
  Either : Bool → Form → Form → Form

abbrev pub code_of : ℕ → Form → List Step
code_of bank (Straight parts) = map (step_of bank) parts
code_of bank (Both first second) = code_of bank first ++ code_of bank second
code_of bank (Either b first second) = if b then code_of bank first else code_of bank second

-- ---- one of two, and registers

pub either-most : {A : Type 0} (f : A → ℕ) (b : Bool) (x y : A) (most : ℕ) → f x ≤ most → f y ≤ most → f (if b then x else y) ≤ most
either-most f true x y most h k = h
either-most f false x y most h k = k

pub read-most : (f : Step → ℕ) (most bank r : ℕ) → f (push_word 0) ≤ most → f (Does (instructions.Load local_kinds.Int r)) ≤ most
    → f (get_field (register_field r)) ≤ most → f (get_register bank r) ≤ most
read-most f most bank r zero local field =
    let kept = Does (instructions.Load local_kinds.Int r) in
    either-most f (r == 0) (push_word 0) (if keeps bank r then kept else get_field (register_field r)) most zero
    (either-most f (keeps bank r) kept (get_field (register_field r)) most local field)

pub write-most : (f : Step → ℕ) (most bank r : ℕ) → f (Does (instructions.Stack Pop)) ≤ most
    → f (Does (instructions.Store local_kinds.Int r)) ≤ most → f (put_field (register_field r)) ≤ most → f (put_register bank r) ≤ most
write-most f most bank r lost local field =
    let kept = Does (instructions.Store local_kinds.Int r) in
    either-most f (r == 0) (Does (instructions.Stack Pop)) (if keeps bank r then kept else put_field (register_field r)) most lost
    (either-most f (keeps bank r) kept (put_field (register_field r)) most local field)

-- ---- what code weighs

-- at most how much each part weighs over any bank
pub record Weights : Type 0 where
  pub total : List Step → ℕ
  pub part : Part → ℕ
  pub nothing : total [] ≡ 0
  pub next : (bank : ℕ) (p : Part) (code : List Step) → total (step_of bank p ∷ code) ≤ part p + total code
  pub behind : (xs ys : List Step) → total (xs ++ ys) ≡ total xs + total ys

abbrev pub most_of_parts : Weights → List Part → ℕ
most_of_parts w [] = 0
most_of_parts w (p ∷ parts) = w.part p + most_of_parts w parts

abbrev pub most : Weights → Form → ℕ
most w (Straight parts) = most_of_parts w parts
most w (Both first second) = most w first + most w second
most w (Either b first second) = max (most w first) (most w second)

parts-weigh : (w : Weights) (bank : ℕ) (parts : List Part) → w.total (map (step_of bank) parts) ≤ most_of_parts w parts
parts-weigh w bank [] = omega (arith, w.nothing)
parts-weigh w bank (p ∷ parts) = omega (arith, w.next bank p (map (step_of bank) parts), parts-weigh w bank parts)

pub form-weighs : (w : Weights) (bank : ℕ) (form : Form) → w.total (code_of bank form) ≤ most w form
form-weighs w bank (Straight parts) = parts-weigh w bank parts
form-weighs w bank (Both first second) =
    omega (arith, w.behind (code_of bank first) (code_of bank second), form-weighs w bank first, form-weighs w bank second)
form-weighs w bank (Either true first second) = omega (arith, form-weighs w bank first)
form-weighs w bank (Either false first second) = omega (arith, form-weighs w bank second)

-- where no part weighs anything, no form does
parts-free : (w : Weights) → ((p : Part) → w.part p ≤ 0) → (parts : List Part) → most_of_parts w parts ≤ 0
parts-free w free [] = omega arith
parts-free w free (p ∷ parts) = omega (arith, free p, parts-free w free parts)

pub form-free : (w : Weights) → ((p : Part) → w.part p ≤ 0) → (form : Form) → most w form ≤ 0
form-free w free (Straight parts) = parts-free w free parts
form-free w free (Both first second) = omega (arith, form-free w free first, form-free w free second)
form-free w free (Either b first second) = omega (arith, form-free w free first, form-free w free second)
