-- How many steps of code go to an offset of the method: `goto_w` and switches.
use Rattle.std.proofs.Common.{◌≡◌, ℕ, ◌+◌, ◌≤◌, List, [], ◌∷◌, ◌++◌, refl, arith}
use Rattle.emit_steps.specs.declared.step.Step.{Step}
use Rattle.emit_steps.specs.declared.step.Step.TheVariants.{Does, Skips, Leaves, Selects}
use Rattle.emit_instructions.proofs.Forms.{Part, Reads, Writes, step_of, read-most, write-most, Weights}

abbrev pub mark : Step → ℕ
mark (Does instruction) = 0
mark (Skips name k) = 0
mark (Leaves target) = 1
mark (Selects s) = 1

abbrev pub marks : List Step → ℕ
marks [] = 0
marks (s ∷ code) = mark s + marks code

pub marks-append : (xs ys : List Step) → marks (xs ++ ys) ≡ marks xs + marks ys
marks-append [] ys = omega arith
marks-append (s ∷ xs) ys = let e : marks (xs ++ ys) ≡ marks xs + marks ys = marks-append xs ys in omega arith

-- ---- code over a bank goes to none

pub part-mark : (bank : ℕ) (p : Part) → mark (step_of bank p) ≤ 0
part-mark bank (Reads r) = read-most mark 0 bank r (omega arith) (omega arith) (omega arith)
part-mark bank (Writes r) = write-most mark 0 bank r (omega arith) (omega arith) (omega arith)
part-mark bank _ = omega arith

abbrev pub goes_to_offsets : Weights
goes_to_offsets = record {
  total = marks;
  part = λ p. 0;
  nothing = refl;
  next = λ bank p code. omega (arith, part-mark bank p);
  behind = marks-append;
}
