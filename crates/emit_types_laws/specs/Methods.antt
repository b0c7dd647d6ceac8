-- The bodies of methods that are typed, by what they take.
use Rattle.std.specs.Prelude.{◌≡◌, ℕ, ◌==◌, ◌<◌, ◌≤◌, true, false, if◌then◌else◌, List, [], ◌∷◌, length, Option, Some, None, All, slice_index_or}
use Rattle.run_definition.specs.declared.order.Order.{Order}
use Rattle.delay_slots.specs.Places.{Address}
use Rattle.jvm_definition.specs.declared.kind.Kind.{Kind}
use Rattle.jvm_definition.specs.declared.kind.Kind.TheVariants.{Top, Int, Ints, Text}
use Rattle.jvm_definition.specs.declared.linked_method.LinkedMethod.{LinkedMethod}
use Rattle.jvm_definition.specs.Program.{Program}
use Rattle.jvm_definition.specs.Typing.{TypeFrame, Typed, with_local_kind}
use Rattle.emit_steps.specs.declared.step.Step.{Step}
use Rattle.emit_steps.specs.Offsets.{CodeOffset}
use Rattle.emit_steps.specs.Placing.{laid}
use Rattle.mem_helpers.specs.Methods.{helper_code}
use Rattle.trampoline.specs.declared.start.Start.{Start}
use Rattle.trampoline.specs.Choosers.{class_chooser, main_chooser}
use Rattle.emit_loading.specs.declared.beginning.Beginning.{Beginning}
use Rattle.emit_loading.specs.declared.page_slot.PageSlot.{PageSlot}
use Rattle.emit_loading.specs.Words.{words_offset}
use Rattle.emit_loading.specs.Pages.{runs_offset, pages_offset}
use Rattle.emit_loading.specs.Filling.{fill_code}
use Rattle.emit_loading.specs.Starting.{run_code}
use Rattle.emit_simulation_laws.specs.Helpers.{helper_parameters, helper_count}
use Rattle.emit_types_laws.specs.Judging.{TakesGives, most_operands}
use Rattle.emit_types_laws.specs.Bodies.{BodyTypes, all_names_below}
use Rattle.emit_types_laws.specs.Knowing.{HelperTypes}

-- the frame with which a method of such parameters is entered
abbrev pub taking : List Kind → TypeFrame
taking parameters = record { locals = λ i. slice_index_or parameters i Top; stack = [] }

-- A body with such parameters and so many local variables is typed, and leaves to offsets as is owed there.
pub record IsBody (program : Program) (owes : CodeOffset → Option TypeFrame)
    (parameters : List Kind) (locals : ℕ) (code : List Step) : Type 0 where
  pub names : all_names_below locals code ≡ true
  pub types : BodyTypes (record { program = program; owes = owes; more = 2 }) code (taking parameters)

-- a body that leaves to no offset
abbrev pub owes_nothing : CodeOffset → Option TypeFrame
owes_nothing at = None

-- a body that is begun anew
abbrev pub owes_beginning : CodeOffset → Option TypeFrame
owes_beginning at = if at == 0 then Some (taking []) else None

-- A method that is laid down from such a body, with room for its operands and parameters, has a
-- typing.
abbrev pub BodiesHaveTypings : Type 0
BodiesHaveTypings =
    (program : Program) (owes : CodeOffset → Option TypeFrame) (method : LinkedMethod)
    (code : List Step)
    → method.lines ≡ laid 0 code
    → length method.parameters ≤ method.locals → most_operands ≤ method.stack
    → IsBody program owes method.parameters method.locals code
    → Typed program method

-- ---- helpers

abbrev pub HelpersTyped : Order → Type 0
HelpersTyped order =
    (program : Program) → HelperTypes program → (number : ℕ) → number < helper_count
    → IsBody program owes_nothing (helper_parameters number) 4 (helper_code order number)

-- ---- methods that choose

-- the method of a part of the code takes and gives nothing
abbrev pub IsStart : Program → Start → Type 0
IsStart program start = TakesGives program start.method [] false

abbrev pub MainChooserTyped : Program → Type 0
MainChooserTyped program =
    (starts : List Start) (missing : ℕ) → TakesGives program missing [] false
    → All (IsStart program) starts
    → IsBody program owes_beginning [] 1 (main_chooser starts missing)

abbrev pub ClassChooserTyped : Program → Type 0
ClassChooserTyped program =
    (starts : List Start) (first end : Address) → All (IsStart program) starts
    → IsBody program owes_beginning [] 1 (class_chooser starts first end)

-- ---- methods that make the memory

-- the loop over the words of a text: the word's number and the place are in local variables
abbrev pub in_words : TypeFrame
in_words = with_local_kind (with_local_kind (taking (Ints ∷ Text ∷ [])) 2 Int []) 3 Int []

abbrev pub owes_words : CodeOffset → Option TypeFrame
owes_words at = if at == words_offset then Some in_words else None

-- the loops over the runs of pages and over a run's pages
abbrev pub in_runs : TypeFrame
in_runs = with_local_kind (taking (Text ∷ [])) 1 Int []

abbrev pub in_pages : TypeFrame
in_pages = with_local_kind (with_local_kind (with_local_kind in_runs 2 Int []) 3 Int []) 4 Int []

abbrev pub owes_pages : CodeOffset → Option TypeFrame
owes_pages at = if at == runs_offset then Some in_runs else if at == pages_offset then Some in_pages
    else None

abbrev pub FillTyped : Program → Type 0
FillTyped program =
    (slots : List PageSlot) (class words : ℕ) → TakesGives program words (Ints ∷ Text ∷ []) false
    → IsBody program owes_nothing [] 0 (fill_code slots class words)

abbrev pub RunTyped : Program → Type 0
RunTyped program =
    (meter : Option ℕ) (b : Beginning) (page_texts : List ℕ) (class pages : ℕ) (fills : List ℕ)
    (choose : ℕ)
    → TakesGives program pages (Text ∷ []) false
    → All (λ m. TakesGives program m [] false) fills
    → TakesGives program choose [] false
    → IsBody program owes_nothing [] 0 (run_code meter b page_texts class pages fills choose)
