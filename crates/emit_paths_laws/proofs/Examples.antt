-- The definitions compute as one expects: a piece of code that takes the greater of two numbers, and where nothing is read.
use Rattle.std.proofs.Common.{◌≡◌, ℕ, ◌+◌, ◌==◌, true, false, List, [], ◌∷◌, map, refl}
use Rattle.jvm_definition.specs.declared.array_name.ArrayName.TheVariants.{Iaload, Aaload}
use Rattle.jvm_definition.specs.declared.branch_name.BranchName.TheVariants.{IfIcmplt, Goto}
use Rattle.jvm_definition.specs.declared.local_kind.LocalKind.TheVariants as local_kinds
use Rattle.jvm_definition.specs.declared.linked_line.LinkedLine.{LinkedLine}
use Rattle.jvm_definition.specs.declared.instruction.Instruction.{Instruction}
use Rattle.jvm_definition.specs.declared.instruction.Instruction.TheVariants as instructions
use Rattle.jvm_definition.specs.declared.value.Value.TheVariants.{Int as int}
use Rattle.jvm_definition.specs.Program.{Program}
use Rattle.jvm_definition.specs.Effect.{Workspace}
use Rattle.emit_paths_laws.specs.Guest.{Span, in_one_span}
use Rattle.emit_paths_laws.specs.Classes.{reads, chars, switches, entries}
use Rattle.emit_paths_laws.specs.Code.{passes, weight_of, all_forward}

abbrev line : ℕ → ℕ → Instruction → LinkedLine
line at next i = record { at = at; next = next; instruction = i }

-- local variable 2 becomes the greater one of 0 and 1
abbrev greater : List LinkedLine
greater =
    line 0 1 (instructions.Load local_kinds.Int 0)
    ∷ line 1 2 (instructions.Load local_kinds.Int 1)
    ∷ line 2 5 (instructions.Branch IfIcmplt 9)
    ∷ line 5 6 (instructions.Load local_kinds.Int 0)
    ∷ line 6 9 (instructions.Branch Goto 10)
    ∷ line 9 10 (instructions.Load local_kinds.Int 1)
    ∷ line 10 11 (instructions.Store local_kinds.Int 2)
    ∷ []

abbrev offsets : List LinkedLine → List ℕ
offsets lines = map (λ (l : LinkedLine). l.at) lines

-- from two numbers of which the second one is greater, and the other way round
pub the_second_is_greater : (program : Program) (words : ℕ) (w : Workspace) → offsets (passes program words greater 5 0 (record w { locals = λ i. int (i + 3) })) ≡ 0 ∷ 1 ∷ 2 ∷ 9 ∷ 10 ∷ []
the_second_is_greater program words w = refl

pub the_first_is_greater : (program : Program) (words : ℕ) (w : Workspace) → offsets (passes program words greater 6 0 (record w { locals = λ i. int 3 })) ≡ 0 ∷ 1 ∷ 2 ∷ 5 ∷ 6 ∷ 10 ∷ []
the_first_is_greater program words w = refl

pub it_goes_forward : all_forward greater ≡ true
it_goes_forward = refl

pub a_loop_does_not : all_forward (line 0 3 (instructions.Branch Goto 0) ∷ []) ≡ false
a_loop_does_not = refl

-- the lines of a load: a page, its word
abbrev load : List LinkedLine
load = line 0 1 (instructions.Array Aaload) ∷ line 1 2 (instructions.Array Iaload) ∷ line 2 5 (instructions.Call 4) ∷ []

pub a_load_reads_once : weight_of reads load ≡ 1
a_load_reads_once = refl

pub a_load_reads_no_character : weight_of chars load ≡ 0
a_load_reads_no_character = refl

pub a_load_switches_nowhere : weight_of switches load ≡ 0
a_load_switches_nowhere = refl

pub a_call_of_a_span_enters_it : weight_of (entries (λ m. m == 4)) load ≡ 1
a_call_of_a_span_enters_it = refl

pub a_call_of_another_method_does_not : weight_of (entries (λ m. m == 5)) load ≡ 0
a_call_of_another_method_does_not = refl

-- two spans of two words each
abbrev spans : List Span
spans = record { first = 4096; words = 2 } ∷ record { first = 4104; words = 2 } ∷ []

pub the_next_word_lies_in_it : in_one_span spans 4096 4100 ≡ true
the_next_word_lies_in_it = refl

pub the_word_behind_does_not : in_one_span spans 4100 4104 ≡ false
the_word_behind_does_not = refl
