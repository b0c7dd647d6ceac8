-- The beginning of the method: which word the guest stands at.
use Rattle.std.specs.Prelude.{ℕ, ◌+◌, ◌*◌, ◌%◌, List, [], ◌∷◌, ◌++◌, replicate}
use Rattle.delay_slots.specs.Places.{Address}
use Rattle.jvm_definition.specs.declared.int_arithmetic.IntArithmetic.TheVariants.{Isub, Ior}
use Rattle.jvm_definition.specs.declared.int_shift.IntShift.TheVariants.{Ishl, Iushr}
use Rattle.jvm_definition.specs.declared.stack_name.StackName.TheVariants.{Dup, Swap}
use Rattle.jvm_definition.specs.declared.instruction.Instruction.TheVariants as instructions
use Rattle.emit_steps.specs.declared.step.Step.{Step}
use Rattle.emit_steps.specs.declared.step.Step.TheVariants.{Does}
use Rattle.emit_steps.specs.Widths.{size}
use Rattle.emit_layout.specs.FieldNumbers.{pc_field}
use Rattle.emit_instructions.specs.Access.{push_word, get_field, arithmetic}

-- A word x is on the stack, and (x >>> 2) | (x << 30) is put there: x / 4 where x is a multiple of 4, and else at least 2^30.
abbrev pub turned_code : List Step
turned_code =
    Does (instructions.Stack Dup) ∷ push_word 2 ∷ Does (instructions.IntShift Iushr)
    ∷ Does (instructions.Stack Swap) ∷ push_word 30 ∷ Does (instructions.IntShift Ishl)
    ∷ arithmetic Ior ∷ []

-- x is how far field pc is behind the address of the span's first word
abbrev pub index_code : Address → List Step
index_code first = get_field pc_field ∷ push_word first ∷ arithmetic Isub ∷ turned_code

-- so many times `nop` that so many bytes behind them end at an offset that leaves 3 modulo 4
abbrev pub padding : ℕ → List Step
padding bytes = replicate ((3 * bytes + 3) % 4) (Does instructions.Nop)

abbrev pub opening : Address → List Step
opening first = padding (size (index_code first)) ++ index_code first
