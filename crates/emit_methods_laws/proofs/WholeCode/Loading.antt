-- The methods that make the memory, and the one with which the program begins.
use Rattle.std.proofs.Common.{◌≡◌, ℕ, ◌*◌, ◌<◌, ◌≤◌, true, false, List, [], ◌∷◌, ◌++◌, All, length, map, Option, Some, None, refl, arith}
use Rattle.std.specs.Prelude.{is_some}
use Rattle.std.specs.List.{list_all, flat_map}
use Rattle.jvm_definition.specs.declared.kind.Kind.TheVariants.{Ints, Text}
use Rattle.emit_steps.specs.declared.step.Step.{Step}
use Rattle.emit_steps.specs.Widths.{size}
use Rattle.emit_layout.specs.FieldNumbers.{readable_field, writable_field}
use Rattle.emit_spans.proofs.BodyLemmas.{size-append}
use Rattle.emit_loading.specs.declared.beginning.Beginning.{Beginning}
use Rattle.emit_loading.specs.declared.page_slot.PageSlot.{PageSlot}
use Rattle.emit_steps.specs.Returning.{returns}
use Rattle.emit_loading.specs.Parts.{call}
use Rattle.emit_loading.specs.Pages.{pages_code}
use Rattle.emit_loading.specs.Words.{words_code}
use Rattle.emit_loading.specs.Filling.{page_code, filled_code, fill_code}
use Rattle.emit_loading.specs.Starting.{table_code, page_text_code, page_texts_code, memory_code, meter_code, begun_code, beginning_call, run_code}
use Rattle.emit_assembly.specs.declared.references.References.{References}
use Rattle.emit_assembly.specs.Assembling.{has_method}
use Rattle.emit_types_laws.specs.Methods.{IsBody, owes_pages, owes_words}
use Rattle.emit_limits.proofs.StepSizes.{word-bytes}
use Rattle.emit_methods_laws.specs.Naming.{fields_of}
use Rattle.emit_methods_laws.specs.Whole.{CanBeMethod}
use Rattle.emit_methods_laws.proofs.NamedCode.Loading.{pages-well, words-well, fill-well, run-well}
use Rattle.emit_methods_laws.proofs.WholeCode.Targets.{passes}
use Rattle.emit_methods_laws.proofs.WholeCode.Bodies.{body-can-be, straight-can-be, passing-can-be, passes-append, straight-passes, goes_on, goes-on-append, goes-on-each}
use Rattle.emit_methods_laws.proofs.WholeCode.Programs.{of_nothing}

-- ---- bytes

each-small : {A : Type 0} (F : A → List Step) (bytes : ℕ) → ((x : A) → size (F x) ≤ bytes) → (xs : List A)
    → size (flat_map F xs) ≤ bytes * length xs
each-small F bytes each [] = omega arith
each-small F bytes each (x ∷ xs) =
    let rest = each-small F bytes each xs in
    let here = each x in
    omega (arith, size-append (F x) (flat_map F xs), here, rest)

page-small : (class words : ℕ) (s : PageSlot) → size (page_code class words s) ≤ 13
page-small class words s = omega (arith, word-bytes s.page)

calls-small : (methods : List ℕ) → size (map call methods) ≡ 3 * length methods
calls-small [] = refl
calls-small (m ∷ methods) = omega (arith, calls-small methods)

calls-go-on : (methods : List ℕ) → list_all goes_on (map call methods) ≡ true
calls-go-on [] = refl
calls-go-on (m ∷ methods) = calls-go-on methods

begun-small : (b : Beginning) (choose : ℕ) → size (begun_code b choose) ≤ 100
begun-small b choose =
    let c = beginning_call b in
    omega (arith, word-bytes c.number, word-bytes c.a0, word-bytes c.a1, word-bytes c.a2, word-bytes c.a3, word-bytes b.entry)

-- ---- methods

module _ (r : References) (fields : 38 ≤ length r.fields) where
  called : (m : ℕ) → has_method r m ≡ true → has_method r m ≡ true
  called m is = is

  pub pages-can-be : IsBody of_nothing owes_pages (Text ∷ []) 5 pages_code → CanBeMethod r pages_code
  pages-can-be typed =
      body-can-be r 38 fields (has_method r) called 0 false of_nothing owes_pages (Text ∷ []) 5 pages_code typed (omega arith) (omega arith) refl
      (pages-well (has_method r) 0)

  pub words-can-be : IsBody of_nothing owes_words (Ints ∷ Text ∷ []) 4 words_code → CanBeMethod r words_code
  words-can-be typed =
      body-can-be r 38 fields (has_method r) called 0 false of_nothing owes_words (Ints ∷ Text ∷ []) 4 words_code typed (omega arith) (omega arith)
      refl (words-well (has_method r) 0)

  pub fill-can-be : (slots : List PageSlot) (class words : ℕ) → length slots ≤ 2048 → has_method r words ≡ true
      → CanBeMethod r (fill_code slots class words)
  fill-can-be slots class words few is =
      let filled = filled_code slots class words in
      let bytes = size-append filled (returns ∷ []) in
      straight-can-be r 38 fields (has_method r) called class false (fill_code slots class words)
      (goes-on-append filled (returns ∷ []) (goes-on-each (page_code class words) (λ s. refl) slots) refl)
      (last-some filled) (omega (arith, bytes, each-small (page_code class words) 13 (page-small class words) slots, few))
      (fill-well (has_method r) class slots words is)
    where
      last-some : (code : List Step) → 0 < length (code ++ returns ∷ [])
      last-some [] = omega arith
      last-some (s ∷ code) = omega arith

-- ---- the method with which the program begins

meter-small : (meter : Option ℕ) (entry : ℕ) → size (meter_code meter entry) ≤ 50
meter-small None entry = omega arith
meter-small (Some turns) entry = omega (arith, word-bytes turns, word-bytes 1, word-bytes 12, word-bytes entry, word-bytes 0)

meter-passes : (meter : Option ℕ) (entry : ℕ) → passes (meter_code meter entry) ≡ true
meter-passes None entry = refl
meter-passes (Some turns) entry = refl

pub run-can-be : (r : References) (meter : Option ℕ) (b : Beginning) (page_texts : List ℕ) (class pages : ℕ) (fills : List ℕ) (choose : ℕ)
    → fields_of (is_some meter) ≤ length r.fields → length page_texts ≤ 2048 → length fills ≤ 2048 → has_method r pages ≡ true
    → All (λ m. has_method r m ≡ true) fills → has_method r choose ≡ true → CanBeMethod r (run_code meter b page_texts class pages fills choose)
run-can-be r meter b page_texts class pages fills choose have few_texts few_fills pages_is fills_are choose_is =
    let tables = table_code readable_field ++ table_code writable_field in
    let texts = page_texts_code class pages page_texts in
    let memory = memory_code page_texts class pages fills in
    let counted = meter_code meter b.entry in
    let first = size-append tables (texts ++ map call fills) in
    let second = size-append texts (map call fills) in
    let third = size-append memory (counted ++ begun_code b choose) in
    let fourth = size-append counted (begun_code b choose) in
    passing-can-be r (fields_of (is_some meter)) have (has_method r) (λ m is. is) class false (run_code meter b page_texts class pages fills choose)
    (passes-append memory (counted ++ begun_code b choose)
    (straight-passes memory
    (goes-on-append tables (texts ++ map call fills) refl
    (goes-on-append texts (map call fills) (goes-on-each (page_text_code class pages) (λ slot. refl) page_texts) (calls-go-on fills))))
    (passes-append counted (begun_code b choose) (meter-passes meter b.entry) refl))
    (omega arith)
    (omega (
      arith,
      first,
      second,
      third,
      fourth,
      each-small (page_text_code class pages) 6 (λ slot. omega arith) page_texts,
      calls-small fills,
      meter-small meter b.entry,
      begun-small b choose,
      few_texts,
      few_fills,
    ))
    (run-well (has_method r) class meter b page_texts pages fills choose pages_is fills_are choose_is)
