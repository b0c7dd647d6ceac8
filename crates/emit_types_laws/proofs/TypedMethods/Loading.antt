-- The methods that make a program's memory, and the one with which it begins.
use Rattle.std.proofs.Common.{◌≡◌, ℕ, ◌==◌, Bool, true, false, if◌then◌else◌, List, [], ◌∷◌, ◌++◌, refl, ap}
use Rattle.std.specs.Prelude.{Option, Some, None, All, map, replicate}
use Rattle.std.proofs.lemmas.Bool.{eqb-true}
use Rattle.std.proofs.lemmas.Option.{none-some}
use Rattle.std.proofs.lemmas.List.Elements.{All-head, All-tail}
use Rattle.jvm_definition.specs.declared.kind.Kind.TheVariants.{Int, Ints, Text}
use Rattle.jvm_definition.specs.Program.{Program}
use Rattle.jvm_definition.specs.Typing.{TypeFrame, with_stack, with_local_kind}
use Rattle.emit_layout.specs.FieldNumbers.{readable_field, writable_field}
use Rattle.emit_loading.specs.declared.beginning.Beginning.{Beginning}
use Rattle.emit_loading.specs.declared.page_slot.PageSlot.{PageSlot}
use Rattle.emit_steps.specs.Returning.{returns}
use Rattle.emit_loading.specs.Parts.{call}
use Rattle.emit_loading.specs.Words.{words_code, words_offset}
use Rattle.emit_loading.specs.Pages.{pages_code, runs_offset, pages_offset}
use Rattle.emit_loading.specs.Filling.{page_code, filled_code, fill_code}
use Rattle.emit_loading.specs.Starting.{table_code, page_text_code, page_texts_code, memory_code, meter_code, begun_code, run_code}
use Rattle.emit_types_laws.specs.Judging.{TakesGives, Leads}
use Rattle.emit_types_laws.specs.Bodies.{IsAhead, all_names_below}
use Rattle.emit_types_laws.specs.Flowing.{Ahead, Flows}
use Rattle.emit_types_laws.proofs.TypedSteps.Flow.{flows-from}
use Rattle.emit_types_laws.proofs.TypedSteps.Joining.{codes-lead, nothing-leads}
use Rattle.emit_types_laws.proofs.TypedSteps.KindOrder.{same}
use Rattle.emit_types_laws.proofs.TypedSteps.Looping.{flows-body}
use Rattle.emit_types_laws.proofs.TypedSteps.Passing.{call-flows}
use Rattle.emit_types_laws.specs.Methods.{taking, owes_nothing, IsBody, in_words, owes_words, in_runs, in_pages, owes_pages}
use Rattle.emit_types_laws.proofs.TypedMethods.Helpers.{owing, plain-body}
use Rattle.emit_types_laws.proofs.TypedMethods.Choosing.{forgets, names-append}

-- ---- words

abbrev words_ahead : Ahead
words_ahead = None ∷ None ∷ None ∷ None ∷ None ∷ None ∷ Some in_words ∷ []

words-owed : (at : ℕ) (f : TypeFrame) → owes_words at ≡ Some f → IsAhead words_code words_ahead at f
words-owed at f h = by_test (at == words_offset) (λ e. eqb-true at words_offset e) h
  where
    by_test : (b : Bool) → (b ≡ true → at ≡ words_offset) → (if b then Some in_words else None) ≡ Some f → IsAhead words_code words_ahead at f
    by_test true is h = record { step = 6; offset = is refl; comes = ap Some h }
    by_test false is h = absurd (none-some f h)

pub words-typed : (program : Program) → IsBody program owes_words (Ints ∷ Text ∷ []) 4 words_code
words-typed program =
    let entry = taking (Ints ∷ Text ∷ []) in
    let begun = with_local_kind entry 2 Int [] in
    record {
      names = refl;
      types = flows-body (record { program = program; owes = owes_words; more = 2 }) words_code entry words_ahead
          (same _, (forgets begun entry 3 Int (forgets entry entry 2 Int (same entry) refl) refl, (same _, (tt, tt)))) words-owed;
    }

-- ---- pages

abbrev pages_ahead : Ahead
pages_ahead = None ∷ None ∷ Some in_runs ∷ (replicate 26 None ++ Some in_pages ∷ [])

pages-owed : (at : ℕ) (f : TypeFrame) → owes_pages at ≡ Some f → IsAhead pages_code pages_ahead at f
pages-owed at f h = by_test (at == runs_offset) (at == pages_offset) (λ e. eqb-true at runs_offset e) (λ e. eqb-true at pages_offset e) h
  where
    by_test : (b c : Bool) → (b ≡ true → at ≡ runs_offset) → (c ≡ true → at ≡ pages_offset)
        → (if b then Some in_runs else if c then Some in_pages else None) ≡ Some f → IsAhead pages_code pages_ahead at f
    by_test true c runs pages h = record { step = 2; offset = runs refl; comes = ap Some h }
    by_test false true runs pages h = record { step = 29; offset = pages refl; comes = ap Some h }
    by_test false false runs pages h = absurd (none-some f h)

pub pages-typed : (program : Program) → IsBody program owes_pages (Text ∷ []) 5 pages_code
pages-typed program =
    let entry = taking (Text ∷ []) in
    let second = with_local_kind in_runs 2 Int [] in
    let third = with_local_kind second 3 Int [] in
    let forgotten = forgets third in_runs 4 Int (forgets second in_runs 3 Int (forgets in_runs in_runs 2 Int (same in_runs) refl) refl) refl in
    record {
      names = refl;
      types = flows-body (record { program = program; owes = owes_pages; more = 2 }) pages_code entry pages_ahead
          (same _, (same _, (same _, (same _, (forgotten, (tt, tt)))))) pages-owed;
    }

-- ---- the words of a class's texts

module _ (program : Program) where
  page-lead : (class words : ℕ) (s : PageSlot) → TakesGives program words (Ints ∷ Text ∷ []) false
      → Leads (owing program) (page_code class words s) (taking []) (taking [])
  page-lead class words s h =
      flows-from (owing program) (page_code class words s) (taking []) (taking [] ∷ [])
      (call-flows (owing program) words (Ints ∷ Text ∷ []) false (with_stack (taking []) (Text ∷ Ints ∷ [])) [] []
      (Flows (owing program) [] (taking [] ∷ [])) h refl refl (same (taking []), tt))

  filled-lead : (slots : List PageSlot) (class words : ℕ) → TakesGives program words (Ints ∷ Text ∷ []) false
      → Leads (owing program) (filled_code slots class words) (taking []) (taking [])
  filled-lead [] class words h = nothing-leads (owing program) (taking [])
  filled-lead (s ∷ slots) class words h =
      codes-lead (owing program) (page_code class words s) (filled_code slots class words) (taking []) (taking []) (taking [] ∷ [])
      (page-lead class words s h) (filled-lead slots class words h)

  filled-names : (slots : List PageSlot) (class words : ℕ) → all_names_below 0 (filled_code slots class words) ≡ true
  filled-names [] class words = refl
  filled-names (s ∷ slots) class words = filled-names slots class words

  pub fill-typed : (slots : List PageSlot) (class words : ℕ) → TakesGives program words (Ints ∷ Text ∷ []) false
      → IsBody program owes_nothing [] 0 (fill_code slots class words)
  fill-typed slots class words h = record {
    names = names-append 0 (filled_code slots class words) (returns ∷ []) (filled-names slots class words) refl;
    types = plain-body program (fill_code slots class words) (taking [])
        (codes-lead (owing program) (filled_code slots class words) (returns ∷ []) (taking []) (taking []) [] (filled-lead slots class words h)
        (flows-from (owing program) (returns ∷ []) (taking []) [] (tt, tt)));
  }

  -- ---- the beginning

  table-lead : (field : ℕ) → Leads (owing program) (table_code field) (taking []) (taking [])
  table-lead field = flows-from (owing program) (table_code field) (taking []) (taking [] ∷ []) (same (taking []), tt)

  texts-lead : (class pages : ℕ) (slots : List ℕ) → TakesGives program pages (Text ∷ []) false
      → Leads (owing program) (page_texts_code class pages slots) (taking []) (taking [])
  texts-lead class pages [] h = nothing-leads (owing program) (taking [])
  texts-lead class pages (slot ∷ slots) h =
      codes-lead (owing program) (page_text_code class pages slot) (page_texts_code class pages slots) (taking []) (taking []) (taking [] ∷ [])
      (flows-from (owing program) (page_text_code class pages slot) (taking []) (taking [] ∷ [])
      (call-flows (owing program) pages (Text ∷ []) false (with_stack (taking []) (Text ∷ [])) [] []
      (Flows (owing program) [] (taking [] ∷ [])) h refl refl (same (taking []), tt)))
      (texts-lead class pages slots h)

  texts-names : (class pages : ℕ) (slots : List ℕ) → all_names_below 0 (page_texts_code class pages slots) ≡ true
  texts-names class pages [] = refl
  texts-names class pages (slot ∷ slots) = texts-names class pages slots

  calls-lead : (fills : List ℕ) → All (λ m. TakesGives program m [] false) fills → Leads (owing program) (map call fills) (taking []) (taking [])
  calls-lead [] all = nothing-leads (owing program) (taking [])
  calls-lead (m ∷ fills) all =
      codes-lead (owing program) (call m ∷ []) (map call fills) (taking []) (taking []) (taking [] ∷ [])
      (flows-from (owing program) (call m ∷ []) (taking []) (taking [] ∷ [])
      (call-flows (owing program) m [] false (taking []) [] [] (Flows (owing program) [] (taking [] ∷ []))
      (All-head (λ m. TakesGives program m [] false) m fills all) refl refl (same (taking []), tt)))
      (calls-lead fills (All-tail (λ m. TakesGives program m [] false) m fills all))

  calls-names : (fills : List ℕ) → all_names_below 0 (map call fills) ≡ true
  calls-names [] = refl
  calls-names (m ∷ fills) = calls-names fills

  meter-leads : (meter : Option ℕ) (entry : ℕ) → Leads (owing program) (meter_code meter entry) (taking []) (taking [])
  meter-leads None entry = nothing-leads (owing program) (taking [])
  meter-leads (Some turns) entry =
      flows-from (owing program) (meter_code (Some turns) entry) (taking []) (taking [] ∷ []) (same (taking []), (same (taking []), tt))

  meter-names : (meter : Option ℕ) (entry : ℕ) → all_names_below 0 (meter_code meter entry) ≡ true
  meter-names None entry = refl
  meter-names (Some turns) entry = refl

  pub run-typed : (meter : Option ℕ) (b : Beginning) (page_texts : List ℕ) (class pages : ℕ) (fills : List ℕ) (choose : ℕ)
      → TakesGives program pages (Text ∷ []) false → All (λ m. TakesGives program m [] false) fills → TakesGives program choose [] false
      → IsBody program owes_nothing [] 0 (run_code meter b page_texts class pages fills choose)
  run-typed meter b page_texts class pages fills choose makes fill chooses =
      let tables = table_code readable_field ++ table_code writable_field in
      let texts = page_texts_code class pages page_texts in
      let before = tables ++ texts in
      let counted = meter_code meter b.entry in
      record {
        names = names-append 0 (memory_code page_texts class pages fills) (counted ++ begun_code b choose)
            (names-append 0 before (map call fills) (names-append 0 tables texts refl (texts-names class pages page_texts))
            (calls-names fills)) (names-append 0 counted (begun_code b choose) (meter-names meter b.entry) refl);
        types = plain-body program (run_code meter b page_texts class pages fills choose) (taking [])
            (codes-lead (owing program) (memory_code page_texts class pages fills) (counted ++ begun_code b choose) (taking []) (taking []) []
            (codes-lead (owing program) before (map call fills) (taking []) (taking []) (taking [] ∷ [])
            (codes-lead (owing program) tables texts (taking []) (taking []) (taking [] ∷ [])
            (codes-lead (owing program) (table_code readable_field) (table_code writable_field) (taking []) (taking []) (taking [] ∷ [])
            (table-lead readable_field) (table-lead writable_field))
            (texts-lead class pages page_texts makes))
            (calls-lead fills fill))
            (codes-lead (owing program) counted (begun_code b choose) (taking []) (taking []) [] (meter-leads meter b.entry)
            (flows-from (owing program) (begun_code b choose) (taking []) []
            (call-flows (owing program) choose [] false (taking []) [] [] (Flows (owing program) (returns ∷ []) []) chooses refl refl (tt, tt)))));
      }
