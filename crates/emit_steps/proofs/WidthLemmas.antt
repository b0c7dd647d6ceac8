-- Each step has a byte.
use Rattle.std.proofs.Common.{ℕ, ◌≤◌, Bool, true, false, nat_lt, if◌then◌else◌, ℤ, pos, negsuc, arith}
use Rattle.jvm_definition.specs.declared.array_kind.ArrayKind.{ArrayKind}
use Rattle.jvm_definition.specs.declared.array_kind.ArrayKind.TheVariants.{Ints, Pages}
use Rattle.jvm_definition.specs.declared.constant.Constant.{Constant}
use Rattle.jvm_definition.specs.declared.constant.Constant.TheVariants as constants
use Rattle.jvm_definition.specs.declared.instruction.Instruction.{Instruction}
use Rattle.jvm_definition.specs.declared.instruction.Instruction.TheVariants as instructions
use Rattle.emit_steps.specs.declared.step.Step.{Step}
use Rattle.emit_steps.specs.declared.step.Step.TheVariants.{Does, Skips, Leaves, Selects}
use Rattle.emit_steps.specs.Widths.{lies_from, int_width, constant_width, array_width, instruction_width, width}

some-way : (b : Bool) (m n : ℕ) → 1 ≤ m → 1 ≤ n → 1 ≤ (if b then m else n)
some-way true m n h k = h
some-way false m n h k = k

int-some : (z : ℤ) → 1 ≤ int_width z
int-some z =
    some-way (lies_from (negsuc 0) (pos 5) z) 1 (if lies_from (negsuc 127) (pos 127) z then 2 else 3) (omega arith)
    (some-way (lies_from (negsuc 127) (pos 127) z) 2 3 (omega arith) (omega arith))

constant-some : (c : Constant) → 1 ≤ constant_width c
constant-some (constants.Int n) = search int-some
constant-some _ = omega arith

array-some : (kind : ArrayKind) → 1 ≤ array_width kind
array-some Ints = omega arith
array-some Pages = omega arith

instruction-some : (i : Instruction) → 1 ≤ instruction_width i
instruction-some (instructions.Push constant) = constant-some constant
instruction-some (instructions.Load kind i) = some-way (nat_lt i 4) 1 2 (omega arith) (omega arith)
instruction-some (instructions.Store kind i) = some-way (nat_lt i 4) 1 2 (omega arith) (omega arith)
instruction-some (instructions.NewArray kind) = array-some kind
instruction-some _ = omega arith

pub width-some : (s : Step) → 1 ≤ width s
width-some (Does instruction) = instruction-some instruction
width-some (Skips name k) = omega arith
width-some (Leaves target) = omega arith
width-some (Selects s) = omega arith
