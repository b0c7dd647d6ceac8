-- Code that can be the code of a method, and tables of what it names.
use Rattle.std.specs.Prelude.{◌≡◌, ℕ, ◌<◌, ◌≤◌, ◌&&◌, All, Bool, true, List, length, Option, is_some}
use Rattle.run_definition.specs.Words.{IsWord}
use Rattle.delay_slots.specs.Places.{Address}
use Rattle.delay_slots.specs.Units.{HasNoFloat, units_of}
use Rattle.emit_steps.specs.declared.step.Step.{Step}
use Rattle.emit_steps.specs.Widths.{size}
use Rattle.emit_spans.specs.declared.span_words.SpanWords.{SpanWords}
use Rattle.emit_spans.specs.Laying.{span_code}
use Rattle.trampoline.specs.declared.start.Start.{Start}
use Rattle.trampoline.specs.Choosers.{class_chooser, main_chooser}
use Rattle.emit_loading.specs.declared.beginning.Beginning.{Beginning}
use Rattle.emit_loading.specs.declared.page_slot.PageSlot.{PageSlot}
use Rattle.emit_loading.specs.Filling.{fill_code}
use Rattle.emit_loading.specs.Starting.{run_code}
use Rattle.emit_assembly.specs.declared.references.References.{References}
use Rattle.emit_assembly.specs.Assembling.{can_be_assembled, has_method, is_method}
use Rattle.emit_methods_laws.specs.Naming.{MayCall, MayCallStarts, fields_of}

-- code can be made into the bytes of a method of a class with such references
abbrev pub CanBeMethod : References → List Step → Type 0
CanBeMethod r code = (can_be_assembled r code && is_method code) ≡ true

-- The table has the 38 fields of the main class that all programs have, and its helpers by their numbers.
pub record HasHelpers (r : References) : Type 0 where
  pub fields : 38 ≤ length r.fields
  pub first : r.first_method ≡ 0
  pub helpers : 20 ≤ length r.methods

-- ---- the laws

-- The code of a span of a range's words can be the code of a method, where there is a word and it
-- has at most 65,535 bytes. With a meter it names one field more.
abbrev pub SpansAreWhole : Type 0
SpansAreWhole =
    (r : References) (words : List ℕ) (leads : ℕ → Bool) (span : SpanWords)
    → HasHelpers r
    → fields_of span.metered ≤ length r.fields
    → All IsWord words → HasNoFloat words
    → span.end ≤ length words → span.first < span.end
    → size (span_code (units_of words) leads span) ≤ 65535
    → CanBeMethod r (span_code (units_of words) leads span)

-- So can the codes of the methods that choose among spans, for at most 2,048 methods that the table
-- has.
abbrev pub ClassChoosersAreWhole : Type 0
ClassChoosersAreWhole =
    (r : References) (starts : List Start) (first end : Address)
    → 38 ≤ length r.fields
    → length starts ≤ 2048 → MayCallStarts (has_method r) starts
    → CanBeMethod r (class_chooser starts first end)

-- So can those of the one that chooses among classes.
abbrev pub MainChoosersAreWhole : Type 0
MainChoosersAreWhole =
    (r : References) (starts : List Start) (missing : ℕ)
    → 38 ≤ length r.fields
    → length starts ≤ 2048 → MayCallStarts (has_method r) starts
    → has_method r missing ≡ true
    → CanBeMethod r (main_chooser starts missing)

-- So can those of the methods that fill pages, of at most 2,048 texts.
abbrev pub FillsAreWhole : Type 0
FillsAreWhole =
    (r : References) (slots : List PageSlot) (class words : ℕ)
    → 38 ≤ length r.fields
    → length slots ≤ 2048 → has_method r words ≡ true
    → CanBeMethod r (fill_code slots class words)

-- So can that of the method with which the program begins; with a meter it names one field more.
abbrev pub RunsAreWhole : Type 0
RunsAreWhole =
    (r : References) (meter : Option ℕ) (b : Beginning) (page_texts : List ℕ) (class pages : ℕ)
    (fills : List ℕ) (choose : ℕ)
    → fields_of (is_some meter) ≤ length r.fields
    → length page_texts ≤ 2048 → length fills ≤ 2048
    → has_method r pages ≡ true → MayCall (has_method r) fills → has_method r choose ≡ true
    → CanBeMethod r (run_code meter b page_texts class pages fills choose)
