-- The code that makes pages, part by part.
use Rattle.std.proofs.Common.{◌≡◌, ℕ, ◌+◌, ◌*◌, ◌%◌, ◌^◌, ◌<◌, ◌≤◌, ◌==◌, bit_and, int_lt, nat_lt, Bool, true, false, if◌then◌else◌, List, [], ◌∷◌, ◌++◌, slice_get, Option, Some, refl, ap, ◌∙◌, arith}
use Rattle.std.proofs.lemmas.Bool.{eq-eqb, ne_eqb, lt-ltb, le-ltb}
use Rattle.run_definition.specs.Words.{signed_of}
use Rattle.jvm_definition.specs.declared.int_arithmetic.IntArithmetic.TheVariants.{Iadd, Iand}
use Rattle.jvm_definition.specs.declared.value.Value.{Value}
use Rattle.jvm_definition.specs.declared.value.Value.TheVariants.{Int as int, Array as array, Text as text}
use Rattle.jvm_definition.specs.Program.{Program}
use Rattle.jvm_definition.specs.Values.{ints, pages, Heap, with_new, with_page, is_ints}
use Rattle.jvm_definition.specs.Effect.{Workspace}
use Rattle.emit_steps.specs.declared.step.Step.{Step}
use Rattle.emit_steps.specs.declared.step.Step.TheVariants.{Leaves}
use Rattle.emit_steps.specs.Outcomes.{Outcome, left, beyond}
use Rattle.emit_layout.specs.FieldNumbers.{page_count, readable_field, writable_field}
use Rattle.emit_instructions.specs.Access.{push_word, arithmetic}
use Rattle.emit_steps.specs.Returning.{returns}
use Rattle.emit_loading.specs.Parts.{load, store, shift_left, next_character}
use Rattle.emit_loading.specs.Pages.{first_page_code, last_page_code, run_code, made_code, writable_code, next_code, runs_offset, pages_offset}
use Rattle.emit_loading_laws.specs.MadePages.{HasTables, with_new_page}
use Rattle.emit_loading_laws.proofs.FillingLaws.Reading.{laters, over_all, with_int_in, run, next-read}

-- the local variables when a run was read: its first character, its first and its last page, and the place behind it
abbrev pub run_read : (ℕ → Value) → (n c first last : ℕ) → ℕ → Value
run_read locals n c first last =
    with_int_in (with_int_in (with_int_in (with_int_in (with_int_in (with_int_in locals 1 (n + 1)) 2 c) 1 (n + 2)) 3 first) 1 (n + 3)) 4 last

-- behind a page's code: the next run, or the next page
abbrev pub next_target : Bool → ℕ
next_target true = 2
next_target false = 48

-- the code of a page, and what stands behind it
abbrev pub pages_rest : List Step
pages_rest =
    made_code ++ (writable_code ++ (next_code pages_offset ++ (Leaves runs_offset ∷ returns ∷ [])))

module _ (program : Program) (words class slot : ℕ) (fields : ℕ → Value) where
  -- the outcome of code
  abbrev goes : List Step → (ℕ → Value) → List Value → Heap → Outcome
  goes code locals operands heap = run program words class slot fields code locals operands heap

  abbrev text_chars : List ℕ
  text_chars = program.characters class slot

  -- ---- a run is read

  -- the first page's high bits
  high-bits : (c x : ℕ) (locals : ℕ → Value) (operands : List Value) (heap : Heap) (rest : List Step) → locals 2 ≡ int c → bit_and c 127 * 4096 % 2 ^ 32 ≡ x → goes (load 2 ∷ push_word 127 ∷ arithmetic Iand ∷ push_word 12 ∷ shift_left ∷ rest) locals operands heap ≡ laters 5 (goes rest locals (int x ∷ operands) heap)
  high-bits c x locals operands heap rest is shifted = simp (is, shifted) refl

  -- a sum is put into a local variable
  sums : (a b i s : ℕ) (locals : ℕ → Value) (operands : List Value) (heap : Heap) (rest : List Step) → (a + b) % 2 ^ 32 ≡ s → goes (arithmetic Iadd ∷ store i ∷ rest) locals (int b ∷ int a ∷ operands) heap ≡ laters 2 (goes rest (with_int_in locals i s) operands heap)
  sums a b i s locals operands heap rest is = simp is refl

  stored : (c : ℕ) (locals : ℕ → Value) (operands : List Value) (heap : Heap) (rest : List Step) → goes (store 2 ∷ rest) locals (int c ∷ operands) heap ≡ laters 1 (goes rest (with_int_in locals 2 c) operands heap)
  stored c locals operands heap rest = refl

  loaded : (i n : ℕ) (locals : ℕ → Value) (operands : List Value) (heap : Heap) (rest : List Step) → locals i ≡ int n → goes (load i ∷ rest) locals operands heap ≡ laters 1 (goes rest locals (int n ∷ operands) heap)
  loaded i n locals operands heap rest is = simp is refl

  pub reads-run : (n c d e x first last : ℕ) (locals : ℕ → Value) (operands : List Value) (heap : Heap) (rest : List Step) → locals 0 ≡ text class slot → locals 1 ≡ int n → n + 3 < 2 ^ 31 → slice_get text_chars n ≡ Some c → slice_get text_chars (n + 1) ≡ Some d → slice_get text_chars (n + 2) ≡ Some e → bit_and c 127 * 4096 % 2 ^ 32 ≡ x → (x + d) % 2 ^ 32 ≡ first → (first + e) % 2 ^ 32 ≡ last → goes (run_code ++ rest) locals operands heap ≡ laters 23 (goes rest (run_read locals n c first last) operands heap)
  reads-run n c d e x first last locals operands heap rest text_is place_is small c_is d_is e_is high first_is last_is =
      let l1 = with_int_in locals 1 (n + 1) in
      let l2 = with_int_in l1 2 c in
      let l3 = with_int_in l2 1 (n + 2) in
      let l4 = with_int_in l3 3 first in
      let l5 = with_int_in l4 1 (n + 3) in
      let behind = last_page_code ++ rest in
      let add_first = arithmetic Iadd ∷ store 3 ∷ behind in
      let add_last = arithmetic Iadd ∷ store 4 ∷ rest in
      next-read program words class slot fields 0 1 n (n + 1) c locals operands heap (store 2 ∷ (first_page_code ++ behind)) text_is place_is c_is (omega arith)
      ∙ ap (laters 4) (stored c l1 operands heap (first_page_code ++ behind))
      ∙ ap (laters 5) (high-bits c x l2 operands heap (next_character 0 1 ++ add_first) refl high)
      ∙ ap (laters 10) (next-read program words class slot fields 0 1 (n + 1) (n + 2) d l2 (int x ∷ operands) heap add_first text_is refl d_is (omega arith))
      ∙ ap (laters 14) (sums x d 3 first l3 operands heap behind first_is)
      ∙ ap (laters 16) (loaded 3 first l4 operands heap (next_character 0 1 ++ add_last) refl)
      ∙ ap (laters 17) (next-read program words class slot fields 0 1 (n + 2) (n + 3) e l4 (int first ∷ operands) heap add_last text_is refl e_is (omega arith))
      ∙ ap (laters 21) (sums first e 4 last l5 operands heap rest last_is)

  -- ---- a page is made

  module _ (readable writable : ℕ) (readable_pages writable_pages : ℕ → Option ℕ) (heap : Heap) (has : HasTables heap readable writable readable_pages writable_pages) (readable_is : fields readable_field ≡ array readable) (writable_is : fields writable_field ≡ array writable) (page : ℕ) (below : page < page_count) (locals : ℕ → Value) (operands : List Value) (page_is : locals 3 ≡ int page) where
    abbrev new : Heap
    new = with_new heap (ints 1024 (λ _. 0))

    abbrev used : ℕ
    used = heap.used

    here : (used == used) ≡ true
    here = eq-eqb used used refl

    readable-apart : (readable == used) ≡ false
    readable-apart = let less = has.readable_made in ne_eqb readable used (λ e. absurd (omega (arith, e, less)))

    readable_new : new.array_at readable ≡ Some (pages page_count readable_pages)
    readable_new =
        ap (λ b. if b then Some (ints 1024 (λ _. 0)) else heap.array_at readable) readable-apart ∙ has.readable_there

    pub makes : (rest : List Step) → used + 1026 ≤ words → goes (made_code ++ rest) locals operands heap ≡ laters 5 (goes rest locals operands (with_new_page heap readable page))
    makes rest room =
        let fits : nat_lt words (used + 1024 + 2) ≡ false = le-ltb words (used + 1024 + 2) (omega (arith, room)) in
        simp (readable_is, page_is, fits, here, readable_new, lt-ltb page page_count below)
        (refl {a = laters 5 (goes rest locals operands (with_new_page heap readable page))})

  -- ---- it is shared, and the next one

  module _ (readable writable page : ℕ) (readable_is : fields readable_field ≡ array readable) (writable_is : fields writable_field ≡ array writable) (below : page < page_count) (locals : ℕ → Value) (operands : List Value) (page_is : locals 3 ≡ int page) (c : ℕ) (c_is : locals 2 ≡ int c) where
    pub shares : (heap : Heap) (p : ℕ) (readable_pages writable_pages : ℕ → Option ℕ) (rest : List Step) → int_lt (signed_of c) (signed_of 128) ≡ false → heap.array_at readable ≡ Some (pages page_count readable_pages) → readable_pages page ≡ Some p → is_ints (heap.array_at p) ≡ true → heap.array_at writable ≡ Some (pages page_count writable_pages) → goes (writable_code ++ rest) locals operands heap ≡ laters 9 (goes rest locals operands (with_page heap writable page (Some p)))
    shares heap p readable_pages writable_pages rest test there here is_array to = simp (c_is, test, writable_is, readable_is, page_is, there, lt-ltb page page_count below, here, is_array, to) refl

    pub passes-over : (heap : Heap) (rest : List Step) (t target : ℕ) (u : Workspace) → int_lt (signed_of c) (signed_of 128) ≡ true → goes rest locals operands heap ≡ left t target u → goes (writable_code ++ rest) locals operands heap ≡ laters 3 (left t target u)
    passes-over heap rest t target u test then_on = over ∙ ap (λ o. laters 3 (beyond (beyond (beyond (beyond (beyond (beyond o))))))) then_on
      where
        over : goes (writable_code ++ rest) locals operands heap ≡ laters 3 (beyond (beyond (beyond (beyond (beyond (beyond (goes rest locals operands heap)))))))
        over = simp (c_is, test) refl

    pub goes-next : (heap : Heap) (last : ℕ) (b : Bool) → locals 4 ≡ int last → int_lt (signed_of last) (signed_of (page + 1)) ≡ b → goes (next_code pages_offset ++ (Leaves runs_offset ∷ returns ∷ [])) locals operands heap ≡ left 5 (next_target b) (over_all (with_int_in locals 3 (page + 1)) operands fields heap)
    goes-next heap last true last_is test =
        let next : (page + 1) % 2 ^ 32 ≡ page + 1 = omega (arith, below) in
        simp (page_is, next, last_is, test) refl
    goes-next heap last false last_is test =
        let next : (page + 1) % 2 ^ 32 ≡ page + 1 = omega (arith, below) in
        simp (page_is, next, last_is, test) refl
