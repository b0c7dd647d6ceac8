-- The method that makes pages, whose argument is a text. The text has three characters for each run of pages: the run's first page
-- divided by 4,096, with 128 added where its pages can be written; the first page modulo 4,096; and the number of its pages less 1.
use Rattle.std.specs.Prelude.{ℕ, List, [], ◌∷◌, ◌++◌, length}
use Rattle.jvm_definition.specs.declared.array_name.ArrayName.TheVariants.{Aaload, Aastore}
use Rattle.jvm_definition.specs.declared.branch_name.BranchName.TheVariants.{IfIcmplt, IfIcmpgt}
use Rattle.jvm_definition.specs.declared.int_arithmetic.IntArithmetic.TheVariants.{Iadd, Iand}
use Rattle.jvm_definition.specs.declared.array_kind.ArrayKind.TheVariants.{Ints}
use Rattle.jvm_definition.specs.declared.instruction.Instruction.TheVariants as instructions
use Rattle.emit_steps.specs.declared.step.Step.{Step}
use Rattle.emit_steps.specs.Offsets.{CodeOffset}
use Rattle.emit_steps.specs.declared.step.Step.TheVariants.{Does, Skips, Leaves}
use Rattle.emit_steps.specs.Widths.{size}
use Rattle.emit_instructions.specs.Access.{push_word, arithmetic}
use Rattle.emit_steps.specs.Returning.{returns}
use Rattle.emit_loading.specs.Parts.{load, store, shift_left, readable_table, writable_table, next_character, ended_code}

-- ---- Local variables: 0 the text, 1 the place in it, 2 a run's first character, 3 a page of the run, 4 its last page.

abbrev pub begun_code : List Step
begun_code = push_word 0 ∷ store 1 ∷ []

-- the run's first page
abbrev pub first_page_code : List Step
first_page_code =
    load 2 ∷ push_word 127 ∷ arithmetic Iand ∷ push_word 12 ∷ shift_left
    ∷ (next_character 0 1 ++ arithmetic Iadd ∷ store 3 ∷ [])

abbrev pub last_page_code : List Step
last_page_code = load 3 ∷ (next_character 0 1 ++ arithmetic Iadd ∷ store 4 ∷ [])

-- the three characters of a run are read
abbrev pub run_code : List Step
run_code = next_character 0 1 ++ store 2 ∷ (first_page_code ++ last_page_code)

-- a page of zeros can be read
abbrev pub made_code : List Step
made_code =
    readable_table ∷ load 3 ∷ push_word 1024 ∷ Does (instructions.NewArray Ints)
    ∷ Does (instructions.Array Aastore) ∷ []

-- the page can be written: the array is the same
abbrev pub shared_code : List Step
shared_code =
    writable_table ∷ load 3 ∷ readable_table ∷ load 3 ∷ Does (instructions.Array Aaload)
    ∷ Does (instructions.Array Aastore) ∷ []

abbrev pub writable_code : List Step
writable_code = load 2 ∷ push_word 128 ∷ Skips IfIcmplt (length shared_code) ∷ shared_code

-- the run's next page, whose code is at an offset, unless the last one was made
abbrev pub next_code : ℕ → List Step
next_code target = Does (instructions.Increment 3 1) ∷ load 3 ∷ load 4 ∷ Skips IfIcmpgt 1
    ∷ Leaves target ∷ []

-- ---- The method: a loop over the runs, and in it a loop over the run's pages.

-- the offsets of the loops
abbrev pub runs_offset : CodeOffset
runs_offset = size begun_code

abbrev pub pages_offset : CodeOffset
pages_offset = size (begun_code ++ ended_code 0 1 0 ++ run_code)

-- a run's pages, and the next run
abbrev pub run_pages : List Step
run_pages = made_code ++ writable_code ++ next_code pages_offset ++ Leaves runs_offset ∷ []

abbrev pub runs_body : List Step
runs_body = run_code ++ run_pages

abbrev pub pages_code : List Step
pages_code = begun_code ++ ended_code 0 1 (length runs_body) ++ runs_body ++ returns ∷ []
