-- The methods that make a program's memory push texts, pages and a few words more.
use Rattle.std.proofs.Common.{ℕ, ◌+◌, ◌*◌, ◌≤◌, List, [], ◌∷◌, ◌++◌, length, map, Option, Some, None, arith}
use Rattle.mips_definition.specs.Step.{order_number}
use Rattle.emit_layout.specs.FieldNumbers.{readable_field, writable_field}
use Rattle.emit_loading.specs.declared.beginning.Beginning.{Beginning}
use Rattle.emit_loading.specs.declared.page_slot.PageSlot.{PageSlot}
use Rattle.emit_steps.specs.Returning.{returns}
use Rattle.emit_loading.specs.Parts.{call}
use Rattle.emit_loading.specs.Pages.{pages_code}
use Rattle.emit_loading.specs.Words.{words_code}
use Rattle.emit_loading.specs.Filling.{filled_code, fill_code}
use Rattle.emit_loading.specs.Starting.{table_code, page_texts_code, memory_code, meter_code, begun_code, run_code}
use Rattle.emit_assembly.specs.Assembling.{slots_of}
use Rattle.emit_limits.proofs.StepSlots.{taken, slots-taken, taken-append, word-slots}

pub pages-few : slots_of pages_code ≤ 8
pages-few = omega (arith, slots-taken pages_code)

pub words-few : slots_of words_code ≤ 8
words-few = omega (arith, slots-taken words_code)

filled-slots : (slots : List PageSlot) (class words : ℕ) → taken (filled_code slots class words) ≤ 2 * length slots
filled-slots [] class words = omega arith
filled-slots (s ∷ slots) class words = omega (arith, word-slots s.page, filled-slots slots class words)

pub fill-few : (slots : List PageSlot) (class words : ℕ) → slots_of (fill_code slots class words) ≤ 2 * length slots
fill-few slots class words =
    omega (
      arith,
      slots-taken (fill_code slots class words),
      taken-append (filled_code slots class words) (returns ∷ []),
      filled-slots slots class words,
    )

texts-slots : (class pages : ℕ) (slots : List ℕ) → taken (page_texts_code class pages slots) ≤ length slots
texts-slots class pages [] = omega arith
texts-slots class pages (slot ∷ slots) = omega (arith, texts-slots class pages slots)

calls-slots : (methods : List ℕ) → taken (map call methods) ≤ 0
calls-slots [] = omega arith
calls-slots (m ∷ methods) = omega (arith, calls-slots methods)

memory-slots : (page_texts : List ℕ) (class pages : ℕ) (fills : List ℕ)
    → taken (memory_code page_texts class pages fills) ≤ 2 + length page_texts
memory-slots page_texts class pages fills =
    let tables = table_code readable_field ++ table_code writable_field in
    let texts = page_texts_code class pages page_texts in
    omega (
      arith,
      taken-append (tables ++ texts) (map call fills),
      taken-append tables texts,
      texts-slots class pages page_texts,
      calls-slots fills,
    )

begun-slots : (b : Beginning) (choose : ℕ) → taken (begun_code b choose) ≤ 8
begun-slots b choose =
    omega (arith, word-slots b.heap_start, word-slots b.heap_bytes, word-slots (order_number b.order), word-slots b.entry)

meter-slots : (meter : Option ℕ) (entry : ℕ) → taken (meter_code meter entry) ≤ 2
meter-slots None entry = omega arith
meter-slots (Some turns) entry = omega (arith, word-slots turns, word-slots entry)

pub run-few : (meter : Option ℕ) (b : Beginning) (page_texts : List ℕ) (class pages : ℕ) (fills : List ℕ) (choose : ℕ)
    → slots_of (run_code meter b page_texts class pages fills choose) ≤ length page_texts + 16
run-few meter b page_texts class pages fills choose =
    let memory = memory_code page_texts class pages fills in
    let counted = meter_code meter b.entry in
    let begun = begun_code b choose in
    omega (
      arith,
      slots-taken (run_code meter b page_texts class pages fills choose),
      taken-append memory (counted ++ begun),
      taken-append counted begun,
      meter-slots meter b.entry,
      memory-slots page_texts class pages fills,
      begun-slots b choose,
    )
