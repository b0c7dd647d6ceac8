-- What single instructions compute, as tables: the operands before, top first, and those after.
use Rattle.std.proofs.Common.{◌≡◌, ℕ, ◌+◌, ◌-◌, ◌^◌, pos, negsuc, List, [], ◌∷◌, map, slice_get, Option, Some, None, refl}
use Rattle.jvm_definition.specs.declared.conversion.Conversion.TheVariants.{I2b, I2c, I2s, I2l, L2i}
use Rattle.jvm_definition.specs.declared.int_division.IntDivision.TheVariants.{Idiv, Irem}
use Rattle.jvm_definition.specs.declared.int_shift.IntShift.TheVariants.{Ishl, Ishr, Iushr}
use Rattle.jvm_definition.specs.declared.long_division.LongDivision.TheVariants.{Ldiv, Lrem}
use Rattle.jvm_definition.specs.declared.long_shift.LongShift.TheVariants.{Lshl, Lshr, Lushr}
use Rattle.jvm_definition.specs.declared.stack_name.StackName.TheVariants.{Pop2, DupX1, DupX2, Dup2, Swap}
use Rattle.jvm_definition.specs.declared.instruction.Instruction.{Instruction}
use Rattle.jvm_definition.specs.declared.instruction.Instruction.TheVariants.{Stack, IntDivision, IntShift, LongDivision, LongShift, Convert, LongCompare, TableSwitch, LookupSwitch}
use Rattle.jvm_definition.specs.Values.{no_arrays}
use Rattle.jvm_definition.specs.declared.value.Value.{Value}
use Rattle.jvm_definition.specs.declared.value.Value.TheVariants.{Unset as unset, Int as int, Long as long}
use Rattle.jvm_definition.specs.Program.{Program, instruction_targets}
use Rattle.jvm_definition.specs.Effect.{Workspace, InstructionEffect, goes_on, jumps, instruction_effect}

abbrev empty : Program
empty = record { field = λ f. None; method = λ m. None; characters = λ c s. []; first = 0 }

abbrev working_on : List Value → Workspace
working_on operands = record { locals = λ i. unset; operands = operands; fields = λ f. unset; heap = no_arrays }

-- ---- operands

-- an instruction, with the operands before it and after it
record Row : Type 0 where
  instruction : Instruction
  before : List Value
  after : List Value

abbrev operands_of : InstructionEffect → Option (List Value)
operands_of (goes_on w) = Some w.operands
operands_of _ = None

abbrev computed : List Row → List (Option (List Value))
computed rows = map (λ (r : Row). operands_of (instruction_effect empty 0 r.instruction (working_on r.before))) rows

abbrev stated : List Row → List (Option (List Value))
stated rows = map (λ (r : Row). Some r.after) rows

abbrev row : Instruction → List Value → List Value → Row
row instruction before after = record { instruction = instruction; before = before; after = after }

-- two numbers, of which the second one is uppermost, and a result
abbrev ints : Instruction → ℕ → ℕ → ℕ → Row
ints i a b c = row i (int b ∷ int a ∷ []) (int c ∷ [])

abbrev longs : Instruction → ℕ → ℕ → ℕ → Row
longs i a b c = row i (long b ∷ long a ∷ []) (long c ∷ [])

abbrev shift : Instruction → ℕ → ℕ → ℕ → Row
shift i a n c = row i (int n ∷ long a ∷ []) (long c ∷ [])

abbrev order : ℕ → ℕ → ℕ → Row
order a b c = row LongCompare (long b ∷ long a ∷ []) (int c ∷ [])

abbrev narrow : Instruction → ℕ → ℕ → Row
narrow i a c = row i (int a ∷ []) (int c ∷ [])

-- quotients are truncated toward zero; the least number by -1 is itself
abbrev divisions : List Row
divisions =
    ints (IntDivision Idiv) (2 ^ 31) (2 ^ 32 - 1) (2 ^ 31)
    ∷ ints (IntDivision Irem) (2 ^ 31) (2 ^ 32 - 1) 0
    ∷ ints (IntDivision Idiv) (2 ^ 32 - 7) 2 (2 ^ 32 - 3)
    ∷ ints (IntDivision Irem) (2 ^ 32 - 7) 2 (2 ^ 32 - 1)
    ∷ ints (IntDivision Irem) 7 (2 ^ 32 - 2) 1
    ∷ longs (LongDivision Ldiv) (2 ^ 63) (2 ^ 64 - 1) (2 ^ 63)
    ∷ longs (LongDivision Lrem) (2 ^ 63) (2 ^ 64 - 1) 0
    ∷ longs (LongDivision Ldiv) (2 ^ 64 - 7) 2 (2 ^ 64 - 3)
    ∷ longs (LongDivision Lrem) (2 ^ 64 - 7) 2 (2 ^ 64 - 1)
    ∷ []

quotients_are_truncated : computed divisions ≡ stated divisions
quotients_are_truncated = refl

-- the low five or six bits of a count are taken
abbrev shifts : List Row
shifts =
    ints (IntShift Ishl) 1 33 2
    ∷ ints (IntShift Ishr) (2 ^ 31) 31 (2 ^ 32 - 1)
    ∷ ints (IntShift Iushr) (2 ^ 31) 31 1
    ∷ ints (IntShift Iushr) (2 ^ 31) 32 (2 ^ 31)
    ∷ shift (LongShift Lshl) 1 65 2
    ∷ shift (LongShift Lshr) (2 ^ 63) 63 (2 ^ 64 - 1)
    ∷ shift (LongShift Lshr) (2 ^ 64 - 5) 1 (2 ^ 64 - 3)
    ∷ shift (LongShift Lshr) 5 1 2
    ∷ shift (LongShift Lushr) (2 ^ 63) 63 1
    ∷ shift (LongShift Lushr) (2 ^ 64 - 1) 32 (2 ^ 32 - 1)
    ∷ shift (LongShift Lushr) (2 ^ 64 - 1) 64 (2 ^ 64 - 1)
    ∷ []

shifts_take_low_bits : computed shifts ≡ stated shifts
shifts_take_low_bits = refl

-- longs are compared with their signs
abbrev comparisons : List Row
comparisons =
    order 5 5 0
    ∷ order 4 5 (2 ^ 32 - 1)
    ∷ order 5 4 1
    ∷ order (2 ^ 64 - 1) 0 (2 ^ 32 - 1)
    ∷ order (2 ^ 63 - 1) (2 ^ 63) 1
    ∷ []

longs_are_compared_with_signs : computed comparisons ≡ stated comparisons
longs_are_compared_with_signs = refl

abbrev conversions : List Row
conversions =
    narrow (Convert I2b) 0x80 0xFFFF_FF80
    ∷ narrow (Convert I2b) 0x17F 0x7F
    ∷ narrow (Convert I2b) 0xFFFF_8000 0
    ∷ narrow (Convert I2c) 0x80 0x80
    ∷ narrow (Convert I2c) 0xFFFF_8000 0x8000
    ∷ narrow (Convert I2s) 0x80 0x80
    ∷ narrow (Convert I2s) 0x8000 0xFFFF_8000
    ∷ narrow (Convert I2s) 0xFFFF_8000 0xFFFF_8000
    ∷ row (Convert I2l) (int (2 ^ 32 - 1) ∷ []) (long (2 ^ 64 - 1) ∷ [])
    ∷ row (Convert L2i) (long (2 ^ 63 + 5) ∷ []) (int 5 ∷ [])
    ∷ []

conversions_keep_or_extend : computed conversions ≡ stated conversions
conversions_keep_or_extend = refl

-- the forms of dup_x2, dup2 and pop2: a long counts as two ints
abbrev moves : List Row
moves =
    row (Stack DupX2) (int 1 ∷ int 2 ∷ int 3 ∷ int 4 ∷ []) (int 1 ∷ int 2 ∷ int 3 ∷ int 1 ∷ int 4 ∷ [])
    ∷ row (Stack DupX2) (int 1 ∷ long 2 ∷ int 3 ∷ []) (int 1 ∷ long 2 ∷ int 1 ∷ int 3 ∷ [])
    ∷ row (Stack DupX1) (int 1 ∷ int 2 ∷ int 3 ∷ []) (int 1 ∷ int 2 ∷ int 1 ∷ int 3 ∷ [])
    ∷ row (Stack Dup2) (long 1 ∷ int 2 ∷ []) (long 1 ∷ long 1 ∷ int 2 ∷ [])
    ∷ row (Stack Dup2) (int 1 ∷ int 2 ∷ []) (int 1 ∷ int 2 ∷ int 1 ∷ int 2 ∷ [])
    ∷ row (Stack Pop2) (long 1 ∷ int 2 ∷ []) (int 2 ∷ [])
    ∷ row (Stack Pop2) (int 1 ∷ int 2 ∷ int 3 ∷ []) (int 3 ∷ [])
    ∷ row (Stack Swap) (int 1 ∷ int 2 ∷ int 3 ∷ []) (int 2 ∷ int 1 ∷ int 3 ∷ [])
    ∷ []

longs_count_twice : computed moves ≡ stated moves
longs_count_twice = refl

-- ---- switches

abbrev target_of : InstructionEffect → Instruction → Option ℕ
target_of (jumps k w) i = slice_get (instruction_targets i) k
target_of _ i = None

-- where a switch goes by each of some keys
abbrev goes_to : Instruction → List ℕ → List (Option ℕ)
goes_to switch keys = map (λ key. target_of (instruction_effect empty 0 switch (working_on (int key ∷ []))) switch) keys

-- keys -1 to 1
abbrev table : Instruction
table = TableSwitch (record { default = 90; low = negsuc 0; targets = 10 ∷ 20 ∷ 30 ∷ [] })

a_table_has_its_edges : goes_to table ((2 ^ 32 - 2) ∷ (2 ^ 32 - 1) ∷ 0 ∷ 1 ∷ 2 ∷ (2 ^ 31) ∷ []) ≡ Some 90 ∷ Some 10 ∷ Some 20 ∷ Some 30 ∷ Some 90 ∷ Some 90 ∷ []
a_table_has_its_edges = refl

-- keys -5, 3 and 1000
abbrev lookup : Instruction
lookup = LookupSwitch (record {
  default = 90;
  pairs = record { key = negsuc 4; target = 10 } ∷ record { key = pos 3; target = 20 } ∷ record { key = pos 1000; target = 30 } ∷ [];
})

a_key_is_found_or_not : goes_to lookup ((2 ^ 32 - 5) ∷ 3 ∷ 1000 ∷ 4 ∷ 5 ∷ []) ≡ Some 10 ∷ Some 20 ∷ Some 30 ∷ Some 90 ∷ Some 90 ∷ []
a_key_is_found_or_not = refl
