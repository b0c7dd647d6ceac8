-- JVM Specification, 6.5: an instruction as bytes.
use Rattle.std.specs.Prelude.{ℕ, ℤ, ◌==◌, Bool, true, if◌then◌else◌, List, [], ◌∷◌, length, Option, Some, None, Ok, Err}
use Rattle.std.specs.Int.{w8, w16}
use Rattle.class_definition.specs.Format.{Format, Reading, ◌>>=◌, missed, number_format, both, exactly, signed}
use Rattle.class_definition.specs.declared.op.Op.{Op}
use Rattle.class_definition.specs.declared.op.Op.TheVariants.{Nop, AconstNull, Iconst, Bipush, Sipush, Ldc, Pool, Local, ShortLocal, Array, Stack, IntArithmetic, IntDivision, IntShift, LongArithmetic, LongDivision, LongShift, Iinc, Convert, Lcmp, Branch, GotoW, TableSwitch, LookupSwitch, Give, Newarray, Arraylength}
use Rattle.class_definition.specs.Opcodes.{iconst_opcode, array_name_opcode, stack_name_opcode, int_arithmetic_opcode, int_division_opcode, int_shift_opcode, long_arithmetic_opcode, long_division_opcode, long_shift_opcode, conversion_opcode, return_name_opcode, local_name_opcode, branch_name_opcode, pool_name_opcode, short_opcode, row_of, plain_of, local_names, branch_names, pool_names}
use Rattle.class_definition.specs.Targets.{outside, cut_instruction, near, wide}
use Rattle.class_definition.specs.Switches.{table_switch, lookup_switch}

abbrev pub opcode : Op → ℕ
opcode Nop = 0
opcode AconstNull = 1
opcode (Iconst name) = iconst_opcode name
opcode (Bipush n) = 16
opcode (Sipush n) = 17
opcode (Ldc slot) = 18
opcode (Pool name slot) = pool_name_opcode name
opcode (Local name index) = local_name_opcode name
opcode (ShortLocal name index) = short_opcode name index
opcode (Array name) = array_name_opcode name
opcode (Stack name) = stack_name_opcode name
opcode (IntArithmetic name) = int_arithmetic_opcode name
opcode (IntDivision name) = int_division_opcode name
opcode (IntShift name) = int_shift_opcode name
opcode (LongArithmetic name) = long_arithmetic_opcode name
opcode (LongDivision name) = long_division_opcode name
opcode (LongShift name) = long_shift_opcode name
opcode (Iinc index n) = 132
opcode (Convert name) = conversion_opcode name
opcode Lcmp = 148
opcode (Branch name target) = branch_name_opcode name
opcode (GotoW target) = 200
opcode (TableSwitch s) = 170
opcode (LookupSwitch s) = 171
opcode (Give name) = return_name_opcode name
opcode Newarray = 188
opcode Arraylength = 190

-- ---- operands

abbrev pub byte : Format ℕ
byte = number_format cut_instruction w8

abbrev pub half_field : Format ℕ
half_field = number_format cut_instruction w16

abbrev pub byte_pair : Format (ℕ × ℤ)
byte_pair = both byte (λ _. signed cut_instruction w8)

-- the kind of arrays of ints
abbrev pub ints : Format (Unit {0})
ints = exactly cut_instruction w8 outside 10

-- the bytes behind the opcode of an instruction at a place
abbrev pub operand_bytes : ℕ → Op → List ℕ
operand_bytes at (Bipush n) = (signed cut_instruction w8).spell n
operand_bytes at (Sipush n) = (signed cut_instruction w16).spell n
operand_bytes at (Ldc slot) = byte.spell slot
operand_bytes at (Pool name slot) = half_field.spell slot
operand_bytes at (Local name index) = byte.spell index
operand_bytes at (Iinc index n) = byte_pair.spell (index, n)
operand_bytes at (Branch name target) = (near at).spell target
operand_bytes at (GotoW target) = (wide at).spell target
operand_bytes at (TableSwitch s) = (table_switch at).spell s
operand_bytes at (LookupSwitch s) = (lookup_switch at).spell s
operand_bytes at Newarray = ints.spell tt
operand_bytes at _ = []

-- whether the operands can be spelled
abbrev pub operands_fit : ℕ → Op → Bool
operands_fit at (Bipush n) = (signed cut_instruction w8).fits n
operands_fit at (Sipush n) = (signed cut_instruction w16).fits n
operands_fit at (Ldc slot) = byte.fits slot
operands_fit at (Pool name slot) = half_field.fits slot
operands_fit at (Local name index) = byte.fits index
operands_fit at (Iinc index n) = byte_pair.fits (index, n)
operands_fit at (Branch name target) = (near at).fits target
operands_fit at (GotoW target) = (wide at).fits target
operands_fit at (TableSwitch s) = (table_switch at).fits s
operands_fit at (LookupSwitch s) = (lookup_switch at).fits s
operands_fit at _ = true

-- ---- reading

-- what is made of what is read
abbrev pub made_from : {A B : Type 0} → (B → A) → Format B → List ℕ → Reading A
made_from make f bytes = f.read bytes >>= λ b. Ok (make b.0, b.1)

abbrev pub chosen : {A B : Type 0} → Option A → (A → Reading B) → Reading B → Reading B
chosen None f others = others
chosen (Some a) f others = f a

-- the instructions whose form no other has
unfoldable pub single : ℕ → ℕ → List ℕ → Reading Op
single at opcode bytes =
    if opcode == 16 then made_from Bipush (signed cut_instruction w8) bytes
    else if opcode == 17 then made_from Sipush (signed cut_instruction w16) bytes
    else if opcode == 18 then made_from Ldc byte bytes
    else if opcode == 132 then made_from (λ x. Iinc x.0 x.1) byte_pair bytes
    else if opcode == 170 then made_from TableSwitch (table_switch at) bytes
    else if opcode == 171 then made_from LookupSwitch (lookup_switch at) bytes
    else if opcode == 188 then made_from (λ _. Newarray) ints bytes
    else if opcode == 200 then made_from GotoW (wide at) bytes
    else missed outside bytes

unfoldable pub operands : ℕ → ℕ → List ℕ → Reading Op
operands at opcode bytes =
    chosen (plain_of opcode) (λ op. Ok (op, bytes))
    (chosen (row_of opcode local_names) (λ name. made_from (Local name) byte bytes)
    (chosen (row_of opcode branch_names) (λ name. made_from (Branch name) (near at) bytes)
    (chosen (row_of opcode pool_names) (λ name. made_from (Pool name) half_field bytes)
    (single at opcode bytes))))

-- an opcode and its operands
abbrev pub inner : ℕ → List ℕ → Reading Op
inner at bytes = byte.read bytes >>= λ t. operands at t.0 t.1

-- what is at fault within is at fault at the first byte
abbrev pub as_one : {A : Type 0} → ℕ → Reading A → Reading A
as_one size (Ok x) = Ok x
as_one size (Err miss) = Err (record { kind = miss.kind; left = size })

-- an instruction at a place
abbrev pub instruction : ℕ → Format Op
instruction at = record {
  spell = λ op. opcode op ∷ operand_bytes at op;
  fits = operands_fit at;
  read = λ bytes. as_one (length bytes) (inner at bytes);
}
