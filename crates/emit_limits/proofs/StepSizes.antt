-- How many bytes steps have.
use Rattle.std.proofs.Common.{◌≡◌, ℕ, ◌+◌, ◌≤◌, nat_lt, if◌then◌else◌, pos, negsuc, List, [], ◌∷◌, ◌++◌, refl, arith}
use Rattle.run_definition.specs.Words.{signed_of}
use Rattle.jvm_definition.specs.declared.local_kind.LocalKind.TheVariants as local_kinds
use Rattle.jvm_definition.specs.declared.instruction.Instruction.TheVariants as instructions
use Rattle.emit_steps.specs.declared.step.Step.{Step}
use Rattle.emit_steps.specs.declared.step.Step.TheVariants.{Does}
use Rattle.emit_steps.specs.Widths.{lies_from, local_width, instruction_width, width, size}
use Rattle.emit_instructions.specs.Access.{push_word}
use Rattle.emit_instructions.proofs.Forms.{Part, Acts, Passes, Word, Reads, Writes, step_of, either-most, read-most, write-most, Weights}

pub size-append : (xs ys : List Step) → size (xs ++ ys) ≡ size xs + size ys
size-append [] ys = omega arith
size-append (s ∷ xs) ys = let e : size (xs ++ ys) ≡ size xs + size ys = size-append xs ys in omega arith

pub word-bytes : (w : ℕ) → width (push_word w) ≤ 3
word-bytes w =
    let z = signed_of w in
    let itself = λ (n : ℕ). n in
    either-most itself (lies_from (negsuc 0) (pos 5) z) 1 (if lies_from (negsuc 127) (pos 127) z then 2 else 3) 3 (omega arith)
    (either-most itself (lies_from (negsuc 127) (pos 127) z) 2 3 3 (omega arith) (omega arith))

local-bytes : (r : ℕ) → local_width r ≤ 2
local-bytes r = either-most (λ (n : ℕ). n) (nat_lt r 4) 1 2 2 (omega arith) (omega arith)

pub load-bytes : (r : ℕ) → width (Does (instructions.Load local_kinds.Int r)) ≤ 2
load-bytes r = local-bytes r

pub store-bytes : (r : ℕ) → width (Does (instructions.Store local_kinds.Int r)) ≤ 2
store-bytes r = local-bytes r

-- ---- code over a bank

abbrev part_bytes : Part → ℕ
part_bytes (Acts instruction) = instruction_width instruction
part_bytes _ = 3

pub part-bytes : (bank : ℕ) (p : Part) → width (step_of bank p) ≤ part_bytes p
part-bytes bank (Acts instruction) = omega arith
part-bytes bank (Passes name k) = omega arith
part-bytes bank (Word w) = word-bytes w
part-bytes bank (Reads r) = read-most width 3 bank r (omega arith) (omega (arith, load-bytes r)) (omega arith)
part-bytes bank (Writes r) = write-most width 3 bank r (omega arith) (omega (arith, store-bytes r)) (omega arith)

abbrev pub sizes : Weights
sizes = record {
  total = size;
  part = part_bytes;
  nothing = refl;
  next = λ bank p code. omega (arith, part-bytes bank p);
  behind = size-append;
}
