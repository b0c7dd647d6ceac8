-- JVM Specification, 6.5: the bytes of each step.
use Rattle.std.specs.Prelude.{ℕ, zero, suc, ◌+◌, ◌*◌, ℤ, pos, negsuc, int_le, Bool, ◌&&◌, nat_lt, if◌then◌else◌, List, [], ◌∷◌, length}
use Rattle.run_definition.specs.Words.{signed_of}
use Rattle.jvm_definition.specs.declared.array_kind.ArrayKind.{ArrayKind}
use Rattle.jvm_definition.specs.declared.array_kind.ArrayKind.TheVariants as array_kinds
use Rattle.jvm_definition.specs.declared.constant.Constant.{Constant}
use Rattle.jvm_definition.specs.declared.constant.Constant.TheVariants as constants
use Rattle.jvm_definition.specs.declared.instruction.Instruction.{Instruction}
use Rattle.jvm_definition.specs.declared.instruction.Instruction.TheVariants as instructions
use Rattle.emit_steps.specs.declared.step.Step.{Step}
use Rattle.emit_steps.specs.declared.step.Step.TheVariants.{Does, Skips, Leaves, Selects}

-- a number that lies from low to high
abbrev pub lies_from : ℤ → ℤ → ℤ → Bool
lies_from low high z = int_le low z && int_le z high

-- iconst, bipush, sipush and ldc_w
abbrev pub int_width : ℤ → ℕ
int_width z = if lies_from (negsuc 0) (pos 5) z then 1
    else if lies_from (negsuc 127) (pos 127) z then 2 else 3

abbrev pub constant_width : Constant → ℕ
constant_width constants.Null = 1
constant_width (constants.Int n) = int_width (signed_of n)
constant_width (constants.Long n) = 3
constant_width (constants.Text class slot) = 3

-- the forms with their own opcodes reach local variables 0 to 3
abbrev pub local_width : ℕ → ℕ
local_width i = if nat_lt i 4 then 1 else 2

abbrev pub array_width : ArrayKind → ℕ
array_width array_kinds.Ints = 2
array_width array_kinds.Pages = 3

abbrev pub instruction_width : Instruction → ℕ
instruction_width (instructions.Push constant) = constant_width constant
instruction_width (instructions.Load kind i) = local_width i
instruction_width (instructions.Store kind i) = local_width i
instruction_width (instructions.Increment i by) = 3
instruction_width (instructions.Get f kind) = 3
instruction_width (instructions.Put f kind) = 3
instruction_width instructions.Length = 3
instruction_width instructions.CharAt = 3
instruction_width (instructions.Call m) = 3
instruction_width instructions.CallHost = 3
instruction_width instructions.FaultHost = 3
instruction_width (instructions.NewArray kind) = array_width kind
instruction_width _ = 1

abbrev pub width : Step → ℕ
width (Does instruction) = instruction_width instruction
width (Skips name k) = 3
width (Leaves target) = 5
width (Selects s) = 13 + 4 * length s.targets

-- the bytes of the first k steps, of which there may be fewer
abbrev pub bytes_before : List Step → ℕ → ℕ
bytes_before code zero = 0
bytes_before [] (suc k) = 0
bytes_before (s ∷ code) (suc k) = width s + bytes_before code k

-- the bytes of all steps
abbrev pub size : List Step → ℕ
size [] = 0
size (s ∷ code) = width s + size code
