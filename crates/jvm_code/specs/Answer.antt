-- What reading code answers.
use Rattle.std.specs.Prelude.{ℕ, ◌≡◌, ◌-◌, Bool, false, ◌<◌, slice_index_or, List, length, Option, Some}
use Rattle.class_format.specs.declared.failure.Failure.{Failure}
use Rattle.class_format.specs.declared.failure.Failure.TheVariants.{Missed}
use Rattle.class_format.specs.declared.failure.Failure.TheVariants as failures
use Rattle.class_definition.specs.declared.line.Line.{Line}
use Rattle.class_definition.specs.declared.code_fault.CodeFault.{CodeFault}
use Rattle.jvm_code.specs.declared.code_error.CodeError.{CodeError}
use Rattle.jvm_code.specs.declared.code_error.CodeError.TheVariants.{Refused, NoMemory}
use Rattle.class_definition.specs.Code.{is_line}

-- an error is the first fault; want of memory may come anywhere
abbrev pub IsAnswer : Option CodeFault → CodeError → Type 0
IsAnswer found (Refused fault) = found ≡ Some fault
IsAnswer found NoMemory = Unit {0}

-- marks of the places below their number at which a line begins
abbrev pub AreMarks : List Line → List Bool → Type 0
AreMarks lines marks = (t : ℕ) → t < length marks → slice_index_or marks t false ≡ is_line lines t

abbrev pub refusal_of : ℕ → Failure → CodeError
refusal_of size (Missed miss) = Refused (record { at = size - miss.left; kind = miss.kind })
refusal_of size failures.NoMemory = NoMemory
