-- A field that an instruction names, with its type.
use Rattle.std.specs.Prelude.{ℕ, Option, Some, None}
use Rattle.jvm_definition.specs.declared.kind.Kind.{Kind}
use Rattle.jvm_definition.specs.declared.instruction.Instruction.{Instruction}
use Rattle.jvm_definition.specs.declared.instruction.Instruction.TheVariants.{Wrong}

abbrev pub field_made : (ℕ → Kind → Instruction) → Option (ℕ × Kind) → Instruction
field_made make None = Wrong
field_made make (Some field) = make field.0 field.1
