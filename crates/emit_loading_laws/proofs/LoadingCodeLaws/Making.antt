-- The code that makes the memory of a program.
use Rattle.std.proofs.Common.{◌≡◌, ◌≢◌, ℕ, ◌+◌, ◌<◌, ◌≤◌, nat_lt, Bool, false, List, ◌++◌, length, map, Option, None, refl, sym, subst, append_assoc, arith}
use Rattle.std.proofs.lemmas.Bool.{le-ltb}
use Rattle.elf_image_parts.specs.declared.page_run.PageRun.{PageRun}
use Rattle.elf_image_parts.specs.Runs.{pages_of}
use Rattle.jvm_definition.specs.declared.value.Value.{Value}
use Rattle.jvm_definition.specs.Program.{Program}
use Rattle.jvm_definition.specs.Values.{Heap, pages, no_arrays, with_new}
use Rattle.jvm_definition.specs.Step.{JvmState, Frame, frame_placed}
use Rattle.emit_steps.specs.declared.step.Step.{Step}
use Rattle.emit_steps.specs.Widths.{size}
use Rattle.emit_steps.specs.Outcomes.{ended, outcome}
use Rattle.emit_steps.specs.Placing.{LiesAt}
use Rattle.emit_layout.specs.FieldNumbers.{page_count, readable_field, writable_field}
use Rattle.emit_loading.specs.Parts.{call}
use Rattle.emit_loading.specs.Starting.{table_code, page_texts_code, memory_code}
use Rattle.emit_simulation_laws.specs.Match.{HoldsMemory}
use Rattle.emit_steps.specs.Laws.{PartsLie}
use Rattle.emit_paths_laws.specs.Laws.{CodeIsPathElsewhere}
use Rattle.emit_loading_laws.specs.MadePages.{HasTables, ArePages, PagesRise, made, readable_after, writable_after}
use Rattle.emit_loading_laws.specs.Filled.{filled}
use Rattle.emit_loading_laws.proofs.FillingLaws.Listed.{pages-rise}
use Rattle.emit_loading_laws.proofs.FillingLaws.Told.{tables-after, pages-there}
use Rattle.emit_loading_laws.specs.Loaded.{Filler, MakersAreNone, MakesMemory, numbers_of, slots_of, pages_told, texts_turns, fillers_turns, memory_turns, paged}
use Rattle.emit_loading_laws.specs.Made.{HasMade, readable_place, writable_place, with_tables, over}
use Rattle.emit_loading_laws.proofs.LoadingCodeLaws.Quietly.{quiet-join, quiet-code}
use Rattle.emit_loading_laws.proofs.LoadingCodeLaws.Texts.{texts-made}
use Rattle.emit_loading_laws.proofs.LoadingCodeLaws.Fills.{by_page, all-filled}
use Rattle.emit_loading_laws.proofs.LoadingCodeLaws.Held.{memory-held}

-- the arrays when the tables were made
abbrev pub no_pages : ℕ → Option ℕ
no_pages = λ _. None

abbrev pub tables_made : Heap
tables_made = with_new (with_new no_arrays (pages page_count no_pages)) (pages page_count no_pages)

abbrev pub tables_code : List Step
tables_code = table_code readable_field ++ table_code writable_field

tables-run : (program : Program) (words : ℕ) (locals : ℕ → Value) (operands : List Value) (fields : ℕ → Value) → 1048580 ≤ words → outcome program words tables_code (over locals operands fields no_arrays) ≡ ended 6 (over locals operands (with_tables fields) tables_made)
tables-run program words locals operands fields room =
    let first : nat_lt words 524290 ≡ false = le-ltb words 524290 (omega (arith, room)) in
    let second : nat_lt words 1048580 ≡ false = le-ltb words 1048580 room in
    simp (first, second) refl

has-tables : HasTables tables_made readable_place writable_place no_pages no_pages
has-tables = record {
  readable_there = refl;
  writable_there = refl;
  readable_made = omega arith;
  writable_made = omega arith;
  apart = λ e. absurd (omega (arith, e));
}

module _ (paths : CodeIsPathElsewhere) (parts : PartsLie) (program : Program) (words own m pages : ℕ) (is_span : ℕ → Bool) (texts : List ℕ) (shares : List (List PageRun)) (fillers : List Filler) (readable writable : ℕ → Bool) (page_words : ℕ → List ℕ) (is : MakesMemory program words m pages texts shares fillers readable writable page_words) (none : MakersAreNone is_span pages fillers) (differ : own ≢ m) (locals : ℕ → Value) (operands : List Value) (fields : ℕ → Value) (others : List Frame) (few : length others < 61) (rest : List Step) (lies : LiesAt program own 0 (memory_code texts 0 pages (numbers_of fillers) ++ rest)) where
  abbrev xs : List (ℕ × Bool)
  xs = pages_told shares

  abbrev places : ℕ → Option ℕ
  places = readable_after no_pages tables_made.used xs

  abbrev written : ℕ → Option ℕ
  written = writable_after no_pages tables_made.used xs

  abbrev heap_made : Heap
  heap_made = made readable_place writable_place tables_made xs

  abbrev heap_filled : Heap
  heap_filled = filled places page_words heap_made (map by_page (slots_of fillers))

  abbrev fills : List Step
  fills = map call (numbers_of fillers)

  tables : HasTables heap_made readable_place writable_place places written
  tables = tables-after readable_place writable_place xs tables_made no_pages no_pages has-tables

  are-pages : ArePages heap_made places written (pages_of readable writable page_count)
  are-pages =
      subst (ArePages heap_made places written) is.told
      (pages-there readable_place writable_place xs tables_made has-tables (subst (PagesRise 0) (sym is.told) (pages-rise readable writable page_count)))

  held : HoldsMemory heap_filled readable_place writable_place (paged readable writable page_words)
  held = memory-held heap_made readable_place writable_place places written tables readable writable page_words (slots_of fillers) is.are_pages are-pages

  lie : LiesAt program own 0 tables_code × LiesAt program own (0 + size tables_code) ((page_texts_code 0 pages texts ++ fills) ++ rest)
  lie = parts program own 0 tables_code ((page_texts_code 0 pages texts ++ fills) ++ rest) refl lies

  begin : JvmState
  begin = frame_placed own 0 (over locals operands fields no_arrays) others

  pub makes-memory : HasMade program words own m is_span (memory_turns shares fillers) rest locals operands fields others (paged readable writable page_words)
  unfolding begin
  makes-memory =
      let room = is.room in
      let at = 0 + size tables_code in
      let with = with_tables fields in
      let first = quiet-code paths program words own m is_span 0 6 tables_code (over locals operands fields no_arrays) (over locals operands with tables_made) others differ lie.0 (tables-run program words locals operands fields (omega (arith, room))) (record { no_reads = refl; no_switches = refl; no_entries = refl }) in
      let next = texts-made paths parts program words own m is_span pages readable_place writable_place none.pages_is_none locals operands with others differ is.apart is.pages_is is.pages_lies refl refl (omega (arith, few)) (fills ++ rest) texts shares at tables_made no_pages no_pages is.tell (subst (LiesAt program own at) (append_assoc (page_texts_code 0 pages texts) fills rest) lie.1) has-tables (omega (arith, room)) in
      let last = all-filled paths parts program words own m is_span readable_place places page_words is.are_pages.are_words is.are_pages.long locals operands with others differ refl few rest fillers next.at heap_made is.fill none.fillers_are_none next.lies (record { there = tables.readable_there; whole = λ n q e. record { words = λ _. 0; there = are-pages.zeros n q e } }) in
      record {
        heap = heap_filled;
        comes = record {
          at = last.at;
          lies = last.lies;
          quietly = quiet-join program words m is_span 6 (texts_turns shares + fillers_turns fillers) begin (frame_placed own at (over locals operands with tables_made) others) (frame_placed own last.at (over locals operands with heap_filled) others) first
              (quiet-join program words m is_span (texts_turns shares) (fillers_turns fillers) (frame_placed own at (over locals operands with tables_made) others) (frame_placed own next.at (over locals operands with heap_made) others) (frame_placed own last.at (over locals operands with heap_filled) others) next.quietly last.quietly);
        };
        held = held;
      }
