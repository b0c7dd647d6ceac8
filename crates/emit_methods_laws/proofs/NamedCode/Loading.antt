-- The methods that make the memory, and the one with which the program begins.
use Rattle.std.proofs.Common.{◌≡◌, ℕ, Bool, true, false, List, [], ◌∷◌, ◌++◌, All, map, Option, Some, None, refl}
use Rattle.std.specs.Prelude.{is_some}
use Rattle.std.proofs.lemmas.Bool.{eq-eqb}
use Rattle.std.proofs.lemmas.List.Elements.{All-head, All-tail}
use Rattle.emit_steps.specs.declared.step.Step.{Step}
use Rattle.emit_layout.specs.FieldNumbers.{readable_field, writable_field}
use Rattle.emit_loading.specs.declared.beginning.Beginning.{Beginning}
use Rattle.emit_loading.specs.declared.page_slot.PageSlot.{PageSlot}
use Rattle.emit_steps.specs.Returning.{returns}
use Rattle.emit_loading.specs.Parts.{call}
use Rattle.emit_loading.specs.Pages.{pages_code}
use Rattle.emit_loading.specs.Words.{words_code}
use Rattle.emit_loading.specs.Filling.{page_code, filled_code, fill_code}
use Rattle.emit_loading.specs.Starting.{table_code, page_text_code, page_texts_code, memory_code, meter_code, begun_code, run_code}
use Rattle.emit_methods_laws.specs.Naming.{fields_of}
use Rattle.emit_methods_laws.proofs.NamedCode.Steps.{Well, WellOf, append-of, plain-more, well-append, well-each}

module _ (calls : ℕ → Bool) (class : ℕ) where
  abbrev Named : List Step → Type 0
  Named code = Well calls class false code

  joined : (xs ys : List Step) → Named xs → Named ys → Named (xs ++ ys)
  joined xs ys h k = well-append calls class false xs ys h k

  -- ---- methods of their own

  pub pages-well : Named pages_code
  pages-well = refl

  pub words-well : Named words_code
  words-well = refl

  filled : (words : ℕ) → calls words ≡ true → (s : PageSlot) → Named (page_code class words s)
  filled words is s = rw (eq-eqb class class refl, is) refl

  pub fill-well : (slots : List PageSlot) (words : ℕ) → calls words ≡ true → Named (fill_code slots class words)
  fill-well slots words is =
      joined (filled_code slots class words) (returns ∷ []) (well-each calls class false (page_code class words) (filled words is) slots) refl

  -- ---- the beginning

  texted : (pages : ℕ) → calls pages ≡ true → (slot : ℕ) → Named (page_text_code class pages slot)
  texted pages is slot = rw (eq-eqb class class refl, is) refl

  called : (methods : List ℕ) → All (λ m. calls m ≡ true) methods → Named (map call methods)
  called [] all = refl
  called (m ∷ methods) all =
      rw (All-head (λ m. calls m ≡ true) m methods all) (called methods (All-tail (λ m. calls m ≡ true) m methods all))

  begun : (b : Beginning) (choose : ℕ) → calls choose ≡ true → Named (begun_code b choose)
  begun b choose is = rw is refl

  memory : (page_texts : List ℕ) (pages : ℕ) (fills : List ℕ) → calls pages ≡ true → All (λ m. calls m ≡ true) fills
      → Named (memory_code page_texts class pages fills)
  memory page_texts pages fills pages_is fills_are =
      let tables = table_code readable_field ++ table_code writable_field in
      joined (tables ++ page_texts_code class pages page_texts) (map call fills)
      (joined tables (page_texts_code class pages page_texts) refl
      (well-each calls class false (page_text_code class pages) (texted pages pages_is) page_texts))
      (called fills fills_are)

  metered : (meter : Option ℕ) (entry : ℕ) → WellOf (fields_of (is_some meter)) calls class false (meter_code meter entry)
  metered None entry = refl
  metered (Some turns) entry = refl

  pub run-well : (meter : Option ℕ) (b : Beginning) (page_texts : List ℕ) (pages : ℕ) (fills : List ℕ) (choose : ℕ) → calls pages ≡ true
      → All (λ m. calls m ≡ true) fills → calls choose ≡ true
      → WellOf (fields_of (is_some meter)) calls class false (run_code meter b page_texts class pages fills choose)
  run-well meter b page_texts pages fills choose pages_is fills_are choose_is =
      let fields = fields_of (is_some meter) in
      let made = memory_code page_texts class pages fills in
      let counted = meter_code meter b.entry in
      append-of fields calls class false made (counted ++ begun_code b choose)
      (plain-more (is_some meter) calls class false made (memory page_texts pages fills pages_is fills_are))
      (append-of fields calls class false counted (begun_code b choose) (metered meter b.entry)
      (plain-more (is_some meter) calls class false (begun_code b choose) (begun b choose choose_is)))
