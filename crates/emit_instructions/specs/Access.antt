-- How code reaches the guest's registers, and what it pushes. A bank is a set of registers, by their bits: those that are kept in local
-- variables, register r in local variable r. Every other register is in its field.
use Rattle.std.specs.Prelude.{ℕ, ◌+◌, ◌%◌, ◌^◌, Bool, ◌&&◌, ◌==◌, nat_lt, if◌then◌else◌, List, [], ◌∷◌}
use Rattle.std.specs.Int.{bit_at}
use Rattle.jvm_definition.specs.declared.int_arithmetic.IntArithmetic.{IntArithmetic}
use Rattle.jvm_definition.specs.declared.int_arithmetic.IntArithmetic.TheVariants.{Iadd}
use Rattle.jvm_definition.specs.declared.stack_name.StackName.TheVariants.{Pop}
use Rattle.jvm_definition.specs.declared.constant.Constant.TheVariants as constants
use Rattle.jvm_definition.specs.declared.kind.Kind.TheVariants as kinds
use Rattle.jvm_definition.specs.declared.local_kind.LocalKind.TheVariants as local_kinds
use Rattle.jvm_definition.specs.declared.instruction.Instruction.TheVariants as instructions
use Rattle.emit_steps.specs.declared.step.Step.{Step}
use Rattle.emit_steps.specs.declared.step.Step.TheVariants.{Does}
use Rattle.emit_layout.specs.FieldNumbers.{register_field}

-- a word is pushed
abbrev pub push_word : ℕ → Step
push_word w = Does (instructions.Push (constants.Int w))

abbrev pub get_field : ℕ → Step
get_field f = Does (instructions.Get f kinds.Int)

abbrev pub put_field : ℕ → Step
put_field f = Does (instructions.Put f kinds.Int)

abbrev pub arithmetic : IntArithmetic → Step
arithmetic name = Does (instructions.IntArithmetic name)

-- ---- registers

abbrev pub keeps : ℕ → ℕ → Bool
keeps bank r = nat_lt r 32 && bit_at bank r == 1

-- a register is pushed; register 0 is 0
abbrev pub get_register : ℕ → ℕ → Step
get_register bank r =
    if r == 0 then push_word 0
    else if keeps bank r then Does (instructions.Load local_kinds.Int r)
    else get_field (register_field r)

-- a register takes what is on the stack; what is written to register 0 is lost
abbrev pub put_register : ℕ → ℕ → Step
put_register bank r =
    if r == 0 then Does (instructions.Stack Pop)
    else if keeps bank r then Does (instructions.Store local_kinds.Int r)
    else put_field (register_field r)

-- ---- words that are compared without signs: their top bits are turned, and they are compared with signs

abbrev pub top_bit : ℕ
top_bit = 0x8000_0000

abbrev pub get_turned : ℕ → ℕ → List Step
get_turned bank r = get_register bank r ∷ push_word top_bit ∷ arithmetic Iadd ∷ []

-- a constant whose top bit is turned
abbrev pub turned : ℕ → ℕ
turned w = (w + top_bit) % 2 ^ 32
