-- What is counted of a translation's run and of its guest's, in terms of its layout.
use Rattle.std.specs.Prelude.{◌≡◌, ℕ, ◌+◌, ◌==◌, ◌≤◌, Bool, List, [], ◌∷◌, map}
use Rattle.std.specs.List.{sum_by, list_any}
use Rattle.run_definition.specs.Answer.{Answer, next_answer}
use Rattle.run_simulation_laws.specs.Trail.{Step, trail_of, after_call}
use Rattle.mips_definition.specs.State as guest
use Rattle.mips_definition.specs.Step as guest_step
use Rattle.elf_definition.specs.Start.{Source, image_of}
use Rattle.elf_definition.specs.Loading.{start_of}
use Rattle.jvm_definition.specs.Program.{Program}
use Rattle.jvm_definition.specs.Step.{JvmState, jvm_start, jvm_turn}
use Rattle.emit_layout.specs.Numbers.{main_methods}
use Rattle.emit_paths_laws.specs.Classes.{reads, chars, switches, entries, executed}
use Rattle.emit_paths_laws.specs.Guest.{Span, crossings, partial}
use Rattle.translate_program.specs.declared.layout.Layout.{Layout}
use Rattle.translate_program.specs.declared.span_info.SpanInfo.{SpanInfo}
use Rattle.translate_program.specs.Files.{need}

-- ---- the spans of a layout, as crossings are counted by

abbrev pub counted : SpanInfo → Span
counted span = record { first = span.first; words = span.words }

abbrev pub layout_spans : Layout → List Span
layout_spans layout = map counted layout.spans.items

-- ---- their methods

-- The main class's methods come first, and then those of each class of code: one for each of its spans, and one more. So the method of a span has
-- this number in the program, by how many spans stand before it in the layout, and by the number of its class.
abbrev pub span_number : ℕ → SpanInfo → ℕ
span_number before span = main_methods + before + span.class

-- the numbers of spans, behind so many others
abbrev pub span_numbers : ℕ → List SpanInfo → List ℕ
span_numbers before [] = []
span_numbers before (span ∷ spans) = span_number before span ∷ span_numbers (before + 1) spans

-- a method is that of a span
abbrev pub is_span_method : Layout → ℕ → Bool
is_span_method layout m = list_any (λ n. n == m) (span_numbers 0 layout.spans.items)

-- ---- runs of so many turns

-- of the guest, behind its first call, which is the loader's
abbrev pub guest_trail : Source → ℕ → List Answer → List (Step guest.State)
guest_trail source m answers =
    after_call guest_step.turn (trail_of guest_step.turn next_answer m (start_of (image_of source))
    answers)

-- in a region of so many words: from the start on, and behind the first call
abbrev pub whole_class_trail : Program → ℕ → ℕ → List Answer → List (Step JvmState)
whole_class_trail program words m answers =
    trail_of (jvm_turn program words) next_answer m (jvm_start program) answers

abbrev pub class_trail : Program → ℕ → ℕ → List Answer → List (Step JvmState)
class_trail program words m answers =
    after_call (jvm_turn program words) (whole_class_trail program words m answers)

-- ---- both

-- Over every list of answers of the system, and in every region that has room for the pages, in m turns of the classes and m turns of the guest: behind
-- the first call the classes read at most as many words of memory as the guest makes accesses for which a word is read, and no character. They switch
-- there, and enter spans of the layout in the whole run, at most once for each crossing of the guest, and once more.
pub record CountsAlike (source : Source) (layout : Layout) (program : Program) : Type 0 where
  -- words of memory that are read
  pub reads : (words m : ℕ) (answers : List Answer) → need (image_of source).mapped ≤ words
      → sum_by (executed program reads) (class_trail program words m answers)
      ≤ partial (guest_trail source m answers)
  -- characters of texts, of which none is read
  pub chars : (words m : ℕ) (answers : List Answer) → need (image_of source).mapped ≤ words
      → sum_by (executed program chars) (class_trail program words m answers) ≡ 0
  -- switches
  pub switches : (words m : ℕ) (answers : List Answer) → need (image_of source).mapped ≤ words
      → sum_by (executed program switches) (class_trail program words m answers)
      ≤ crossings (layout_spans layout) (guest_trail source m answers) + 1
  -- calls of methods of spans, from the start on: making the memory enters none
  pub entries : (words m : ℕ) (answers : List Answer) → need (image_of source).mapped ≤ words
      → sum_by (executed program (entries (is_span_method layout)))
      (whole_class_trail program words m answers)
      ≤ crossings (layout_spans layout) (guest_trail source m answers) + 1
