-- How many slots the constants of code take, step by step, each counted wherever it stands.
use Rattle.std.proofs.Common.{◌≡◌, ℕ, ◌+◌, ◌≤◌, pos, negsuc, List, [], ◌∷◌, ◌++◌, refl, arith}
use Rattle.run_definition.specs.Words.{signed_of}
use Rattle.emit_steps.specs.declared.step.Step.{Step}
use Rattle.emit_steps.specs.declared.step.Step.TheVariants.{Does}
use Rattle.emit_steps.specs.Widths.{lies_from}
use Rattle.emit_instructions.specs.Access.{push_word}
use Rattle.emit_instructions.proofs.Forms.{Part, Acts, Passes, Word, Reads, Writes, step_of, either-most, read-most, write-most, Weights}
use Rattle.emit_assembly.specs.Assembling.{pushed_by, constants_of, slots_of}
use Rattle.emit_limits.proofs.Counting.{all_slots, few-slots, all-append, within-self}

abbrev pub step_taken : Step → ℕ
step_taken s = all_slots (pushed_by s)

abbrev pub taken : List Step → ℕ
taken [] = 0
taken (s ∷ code) = step_taken s + taken code

pub taken-all : (code : List Step) → all_slots (constants_of code) ≡ taken code
taken-all [] = refl
taken-all (s ∷ code) = omega (arith, all-append (pushed_by s) (constants_of code), taken-all code)

pub slots-taken : (code : List Step) → slots_of code ≤ taken code
slots-taken code = omega (arith, few-slots (constants_of code) (constants_of code) (within-self (constants_of code)), taken-all code)

pub taken-append : (xs ys : List Step) → taken (xs ++ ys) ≡ taken xs + taken ys
taken-append [] ys = omega arith
taken-append (s ∷ xs) ys = omega (arith, taken-append xs ys)

pub word-slots : (w : ℕ) → step_taken (push_word w) ≤ 1
word-slots w =
    omega (
      arith,
      either-most (λ (n : ℕ). n) (lies_from (negsuc 32767) (pos 32767) (signed_of w)) 0 1 1 (omega arith) (omega arith),
    )

-- ---- code over a bank

abbrev part_slots : Part → ℕ
part_slots (Acts instruction) = step_taken (Does instruction)
part_slots (Word w) = 1
part_slots _ = 0

pub part-slots : (bank : ℕ) (p : Part) → step_taken (step_of bank p) ≤ part_slots p
part-slots bank (Acts instruction) = omega arith
part-slots bank (Passes name k) = omega arith
part-slots bank (Word w) = word-slots w
part-slots bank (Reads r) = read-most step_taken 0 bank r (omega arith) (omega arith) (omega arith)
part-slots bank (Writes r) = write-most step_taken 0 bank r (omega arith) (omega arith) (omega arith)

abbrev pub slots : Weights
slots = record {
  total = taken;
  part = part_slots;
  nothing = refl;
  next = λ bank p code. omega (arith, part-slots bank p);
  behind = taken-append;
}
