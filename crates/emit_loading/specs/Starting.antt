-- The method with which the program begins: it makes the memory, makes the loader's call, and then chooses for ever. In a program with a meter
-- the turns that the guest may make are put on it before the call, which is the first of them.
use Rattle.std.specs.Prelude.{ℕ, List, [], ◌∷◌, ◌++◌, map, Option, Some, None}
use Rattle.std.specs.List.{flat_map}
use Rattle.run_definition.specs.declared.call.Call.{Call}
use Rattle.mips_definition.specs.State.{argument_page, stack_start}
use Rattle.mips_definition.specs.Step.{order_number}
use Rattle.jvm_definition.specs.declared.array_kind.ArrayKind.TheVariants.{Pages}
use Rattle.jvm_definition.specs.declared.kind.Kind.TheVariants as kinds
use Rattle.jvm_definition.specs.declared.instruction.Instruction.TheVariants as instructions
use Rattle.emit_steps.specs.declared.step.Step.{Step}
use Rattle.emit_steps.specs.declared.step.Step.TheVariants.{Does}
use Rattle.emit_layout.specs.FieldNumbers.{register_field, pc_field, readable_field, writable_field, page_count}
use Rattle.delay_slots.specs.Places.{Address}
use Rattle.emit_instructions.specs.Access.{push_word, put_field}
use Rattle.meter.specs.Guards.{left_field, counted_code}
use Rattle.emit_loading.specs.declared.beginning.Beginning.{Beginning}
use Rattle.emit_steps.specs.Returning.{returns}
use Rattle.emit_loading.specs.Parts.{call, readable_table, writable_table}
use Rattle.emit_loading.specs.Filling.{push_text}

-- ---- memory

-- a table of pages of which none is there
abbrev pub table_code : ℕ → List Step
table_code field = push_word page_count ∷ Does (instructions.NewArray Pages)
    ∷ Does (instructions.Put field kinds.Pages) ∷ []

-- a text is given to the method that makes pages
abbrev pub page_text_code : ℕ → ℕ → ℕ → List Step
page_text_code class pages slot = push_text class slot ∷ call pages ∷ []

abbrev pub page_texts_code : ℕ → ℕ → List ℕ → List Step
page_texts_code class pages slots = flat_map (page_text_code class pages) slots

-- the tables, the pages of all texts, and their words
abbrev pub memory_code : List ℕ → ℕ → ℕ → List ℕ → List Step
memory_code page_texts class pages fills =
    table_code readable_field ++ table_code writable_field ++ page_texts_code class pages page_texts
    ++ map call fills

-- ---- the meter

-- so many turns are put on it, and the first one is taken off, or the run ends at the entry
abbrev pub meter_code : Option ℕ → Address → List Step
meter_code None entry = []
meter_code (Some turns) entry = push_word turns ∷ put_field left_field ∷ counted_code 1 entry

-- ---- the loader's call

abbrev pub beginning_call : Beginning → Call
beginning_call b =
    record {
      number = 0;
      a0 = argument_page;
      a1 = b.heap_start;
      a2 = b.heap_bytes;
      a3 = order_number b.order;
    }

-- a call of the system, with the tables of pages
abbrev pub asked_code : Call → List Step
asked_code c =
    readable_table ∷ writable_table ∷ push_word c.number ∷ push_word c.a0 ∷ push_word c.a1
    ∷ push_word c.a2 ∷ push_word c.a3
    ∷ Does instructions.CallHost ∷ []

-- the number of arguments becomes r4, r5 is where they stand, and r29 is where the stack begins
abbrev pub answered_code : List Step
answered_code =
    put_field (register_field 4) ∷ push_word argument_page ∷ put_field (register_field 5)
    ∷ push_word stack_start ∷ put_field (register_field 29) ∷ []

-- the guest stands at the entry
abbrev pub entered_code : ℕ → ℕ → List Step
entered_code entry choose = push_word entry ∷ put_field pc_field ∷ call choose ∷ returns ∷ []

abbrev pub begun_code : Beginning → ℕ → List Step
begun_code b choose = asked_code (beginning_call b) ++ answered_code ++ entered_code b.entry choose

-- ---- the method

-- in a program with a meter so many turns are put on it
abbrev pub run_code : Option ℕ → Beginning → List ℕ → ℕ → ℕ → List ℕ → ℕ → List Step
run_code meter b page_texts class pages fills choose =
    memory_code page_texts class pages fills
    ++ (meter_code meter b.entry ++ begun_code b choose)
