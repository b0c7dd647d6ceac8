-- Parts of the code that makes a program's memory. A text is a string in a local variable.
use Rattle.std.specs.Prelude.{ℕ, List, [], ◌∷◌}
use Rattle.jvm_definition.specs.declared.branch_name.BranchName.TheVariants.{IfIcmpge}
use Rattle.jvm_definition.specs.declared.int_shift.IntShift.TheVariants.{Ishl}
use Rattle.jvm_definition.specs.declared.kind.Kind.TheVariants as kinds
use Rattle.jvm_definition.specs.declared.local_kind.LocalKind.TheVariants as local_kinds
use Rattle.jvm_definition.specs.declared.instruction.Instruction.TheVariants as instructions
use Rattle.emit_steps.specs.declared.step.Step.{Step}
use Rattle.emit_steps.specs.declared.step.Step.TheVariants.{Does, Skips}
use Rattle.emit_layout.specs.FieldNumbers.{readable_field, writable_field}

-- a local variable that holds an int, or a reference
abbrev pub load : ℕ → Step
load i = Does (instructions.Load local_kinds.Int i)

abbrev pub store : ℕ → Step
store i = Does (instructions.Store local_kinds.Int i)

abbrev pub load_reference : ℕ → Step
load_reference i = Does (instructions.Load local_kinds.Reference i)

abbrev pub shift_left : Step
shift_left = Does (instructions.IntShift Ishl)

abbrev pub call : ℕ → Step
call m = Does (instructions.Call m)

-- the tables of the pages that can be read, and that can be written
abbrev pub readable_table : Step
readable_table = Does (instructions.Get readable_field kinds.Pages)

abbrev pub writable_table : Step
writable_table = Does (instructions.Get writable_field kinds.Pages)

-- the character of a text at a place, which then is that of the next one; the place is in a local variable too
abbrev pub next_character : ℕ → ℕ → List Step
next_character text place =
    load_reference text ∷ load place ∷ Does instructions.CharAt
    ∷ Does (instructions.Increment place 1) ∷ []

-- the place is behind the text: that many of the following steps are passed over
abbrev pub ended_code : ℕ → ℕ → ℕ → List Step
ended_code text place over =
    load place ∷ load_reference text ∷ Does instructions.Length ∷ Skips IfIcmpge over ∷ []
