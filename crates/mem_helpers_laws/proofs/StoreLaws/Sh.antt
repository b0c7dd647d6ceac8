-- SH: two bytes of a word are replaced.
use Rattle.std.proofs.Common.{◌≡◌, ℕ, ◌+◌, ◌-◌, ◌*◌, ◌/◌, ◌%◌, ◌^◌, ◌==◌, ◌<◌, ◌≤◌, bit_and, bit_or, bit_xor, true, ◌⊎◌, inl, inr, List, [], ◌∷◌, ◌++◌, None, refl, ap, ◌∙◌, sym, arith, lit≤, lit<}
use Rattle.std.proofs.lemmas.Bool.{cases_lt, eqb-true}
use Rattle.std.proofs.lemmas.Nat.{and_mask, or_shifted}
use Rattle.run_definition.specs.Words.{IsWord, lane_of_word, word_with_lane}
use Rattle.run_definition.specs.declared.order.Order.{Order}
use Rattle.run_definition.specs.declared.order.Order.TheVariants.{Big, Little}
use Rattle.nv_words.proofs.LaneLemmas.{lane_of_word-lt, IsWord-with_lane}
use Rattle.run_definition.specs.Memory.{Memory}
use Rattle.mips_definition.specs.Memory.{with_byte}
use Rattle.mips_definition.specs.Loads.{memory_stored}
use Rattle.mips_definition.specs.declared.names.store_name.StoreName.TheVariants.{Sh}
use Rattle.jvm_definition.specs.declared.int_shift.IntShift.TheVariants.{Ishl}
use Rattle.jvm_definition.specs.declared.stack_name.StackName.TheVariants.{Pop}
use Rattle.jvm_definition.specs.declared.value.Value.{Value}
use Rattle.jvm_definition.specs.declared.value.Value.TheVariants.{Int as int, Array as array}
use Rattle.jvm_definition.specs.Program.{Program}
use Rattle.jvm_definition.specs.Effect.{Workspace, InstructionEffect, gives}
use Rattle.emit_steps.specs.declared.step.Step.{Step}
use Rattle.emit_steps.specs.Outcomes.{outcome}
use Rattle.emit_instructions.specs.Helpers.{store_helper}
use Rattle.mem_helpers.specs.Parts.{stack, backward_code}
use Rattle.mem_helpers.specs.Stores.{cleared_code, half_value_code, set_code, put_word, write_fault_code, returns_nothing}
use Rattle.mem_helpers.specs.Methods.{helper_code}
use Rattle.emit_simulation_laws.specs.Match.{IsPage}
use Rattle.emit_simulation_laws.specs.Memory.{with_word_at}
use Rattle.emit_simulation_laws.specs.Outcomes.{Gives}
use Rattle.mem_helpers_laws.specs.Storing.{HoldsTables, LeavesMemory, given_to_store, store_turns}
use Rattle.mem_helpers_laws.proofs.StoreLaws.Stopping.{Stops, stops-after, stops-within}
use Rattle.mem_helpers_laws.proofs.StoreLaws.Accessing.{begins, holding}
use Rattle.mem_helpers_laws.proofs.StoreLaws.Ending.{half-tested, tested-as}
use Rattle.mem_helpers_laws.proofs.StoreLaws.Refusals.{found_code}
use Rattle.mem_helpers_laws.proofs.StoreLaws.Lanes.{word-kept, lane-put}
use Rattle.mem_helpers_laws.proofs.StoreLaws.Amounts.{backward_amount, backward-half-is}
use Rattle.mem_helpers_laws.proofs.StoreLaws.Bits.{replaced, replaced-is, whole-shifted}
use Rattle.mem_helpers_laws.proofs.StoreLaws.Pieces.{word_there, stored_at, returned, word-put, word-read, cut-backward, set-backward}
use Rattle.mem_helpers_laws.proofs.StoreLaws.Done.{place, page, old_word, old_word-is, old_word-there, store-done}

-- ---- the half-word, as code computes it, and its two bytes, the one at the lower address first

abbrev computed_half : Order → ℕ → ℕ
computed_half Big w = bit_and w 0xFFFF
computed_half Little w = bit_or (bit_and w 255 * 2 ^ 8 % 2 ^ 32) (bit_and (w / 2 ^ 8) 255)

abbrev first_byte : Order → ℕ → ℕ
first_byte Big w = lane_of_word w 2
first_byte Little w = lane_of_word w 3

abbrev second_byte : Order → ℕ → ℕ
second_byte Big w = lane_of_word w 3
second_byte Little w = lane_of_word w 2

first_byte-lt : (order : Order) (w : ℕ) → first_byte order w < 2 ^ 8
first_byte-lt Big w = lane_of_word-lt w 2
first_byte-lt Little w = lane_of_word-lt w 3

second_byte-lt : (order : Order) (w : ℕ) → second_byte order w < 2 ^ 8
second_byte-lt Big w = lane_of_word-lt w 3
second_byte-lt Little w = lane_of_word-lt w 2

computed_half-is : (order : Order) (w : ℕ) → computed_half order w ≡ first_byte order w * 2 ^ 8 + second_byte order w
computed_half-is Big w = and_mask w 16 ∙ omega arith
computed_half-is Little w =
    let high : bit_and w 255 * 2 ^ 8 % 2 ^ 32 ≡ w % 2 ^ 8 * 2 ^ 8 = omega (arith, and_mask w 8) in
    let low : w / 2 ^ 8 % 2 ^ 8 < 2 ^ 8 = omega arith in
    ap (λ x. bit_or x (bit_and (w / 2 ^ 8) 255)) high
    ∙ ap (bit_or (w % 2 ^ 8 * 2 ^ 8)) (and_mask (w / 2 ^ 8) 8)
    ∙ or_shifted (w % 2 ^ 8) 8 (w / 2 ^ 8 % 2 ^ 8) low
    ∙ omega arith

-- ---- the word

abbrev half_replaced : ℕ → ℕ → ℕ → ℕ
half_replaced u h n = bit_or (bit_and u (bit_xor (0xFFFF * 2 ^ n % 2 ^ 32) 0xFFFFFFFF)) (h * 2 ^ n % 2 ^ 32)

abbrev with_two : ℕ → ℕ → ℕ → ℕ → ℕ
with_two u i c d = word_with_lane (word_with_lane u i c) (i + 1) d

half-replaced-is : (u c d : ℕ) → IsWord u → c < 2 ^ 8 → d < 2 ^ 8 → (i : ℕ) → (i ≡ 0) ⊎ (i ≡ 2) → half_replaced u (c * 2 ^ 8 + d) (16 - 8 * i) ≡ with_two u i c d
half-replaced-is u c d word hc hd i (inl e) =
    rw e (whole-shifted u (c * 2 ^ 8 + d) 16 0x0000FFFF (replaced u 16 16 (c * 2 ^ 8 + d)) (with_two u 0 c d) (omega arith) (replaced-is u (c * 2 ^ 8 + d) 16 16 word (lit< tt) (omega arith)) (omega arith))
half-replaced-is u c d word hc hd i (inr e) =
    rw e (whole-shifted u (c * 2 ^ 8 + d) 0 0xFFFF0000 (replaced u 16 0 (c * 2 ^ 8 + d)) (with_two u 2 c d) (omega arith) (replaced-is u (c * 2 ^ 8 + d) 16 0 word (lit< tt) (omega arith)) (omega arith))

-- the two places of an aligned half-word
even-place : (a : ℕ) → a % 2 ≡ 0 → (a % 4 ≡ 0) ⊎ (a % 4 ≡ 2)
even-place a even = by_rest (cases_lt (a % 4) 2)
  where
    by_rest : (a % 4 < 2) ⊎ (2 ≤ a % 4) → (a % 4 ≡ 0) ⊎ (a % 4 ≡ 2)
    by_rest (inl low) = inl (omega arith)
    by_rest (inr high) = inr (omega arith)

module _ (program : Program) (words value a pc p : ℕ) (w : Workspace) (page : IsPage w.heap p) (order : Order) where
  abbrev locals : ℕ → Value
  locals = (begins program words value a pc w).locals

  abbrev there : ℕ
  there = word_there program words value a p w page

  abbrev half : ℕ
  half = computed_half order value

  abbrev cut_word : ℕ
  cut_word = bit_and there (bit_xor (0xFFFF * 2 ^ (backward_amount 2 a % 32) % 2 ^ 32) 0xFFFFFFFF)

  abbrev new_word : ℕ
  new_word = half_replaced there half (backward_amount 2 a % 32)

  abbrev after : Workspace
  after = stored_at program words value a p w page locals new_word

  abbrev indexed : List Value
  indexed = int (a / 4 % 1024) ∷ array p ∷ []

  half-put : (rest : List Step) → Stops 8 (outcome program words (set_code (backward_code 2 1) Ishl ++ put_word ++ returns_nothing ++ rest) (holding program words value a pc w (int half ∷ int cut_word ∷ indexed))) (gives None after)
  half-put rest =
      stops-after 7 (set-backward program words value a p w page locals refl 2 half cut_word Ishl indexed (put_word ++ returns_nothing ++ rest))
      (stops-after 1 (word-put program words value a p w page locals new_word (returns_nothing ++ rest)) (returned program words value a p w page locals new_word rest))

module _ (program : Program) (words value a pc p : ℕ) (w : Workspace) (page : IsPage w.heap p) where
  half-pushed : (order : Order) (operands : List Value) (rest : List Step) (most : ℕ) (e : InstructionEffect) → Stops most (outcome program words rest (holding program words value a pc w (int (computed_half order value) ∷ operands))) e → Stops (11 + most) (outcome program words (half_value_code order ++ rest) (holding program words value a pc w operands)) e
  half-pushed Big operands rest most e s =
      stops-within (omega arith) (stops-after 3 {p = outcome program words rest (holding program words value a pc w (int (computed_half Big value) ∷ operands))} refl s)
  half-pushed Little operands rest most e s =
      stops-after 11 {p = outcome program words rest (holding program words value a pc w (int (computed_half Little value) ∷ operands))} refl s

  half-stored : (order : Order) (rest : List Step) → Stops 36 (outcome program words (found_code order Sh ++ returns_nothing ++ rest) (holding program words value a pc w (array p ∷ []))) (gives None (after program words value a pc p w page order))
  half-stored Big rest =
      stops-after 7 (word-read program words value a p w page (locals program words value a pc p w page Big) refl (cleared_code 0xFFFF (backward_code 2 1) Ishl ++ (half_value_code Big ++ (set_code (backward_code 2 1) Ishl ++ put_word ++ returns_nothing ++ rest))))
      (stops-after 10 (cut-backward program words value a p w page (locals program words value a pc p w page Big) refl 0xFFFF 2 (word_there program words value a p w page) Ishl (indexed program words value a pc p w page Big) (half_value_code Big ++ (set_code (backward_code 2 1) Ishl ++ put_word ++ returns_nothing ++ rest)))
      (half-pushed Big (int (cut_word program words value a pc p w page Big) ∷ indexed program words value a pc p w page Big) (set_code (backward_code 2 1) Ishl ++ put_word ++ returns_nothing ++ rest) 8 (gives None (after program words value a pc p w page Big)) (half-put program words value a pc p w page Big rest)))
  half-stored Little rest =
      stops-after 7 (word-read program words value a p w page (locals program words value a pc p w page Little) refl (cleared_code 0xFFFF (backward_code 2 1) Ishl ++ (half_value_code Little ++ (set_code (backward_code 2 1) Ishl ++ put_word ++ returns_nothing ++ rest))))
      (stops-after 10 (cut-backward program words value a p w page (locals program words value a pc p w page Little) refl 0xFFFF 2 (word_there program words value a p w page) Ishl (indexed program words value a pc p w page Little) (half_value_code Little ++ (set_code (backward_code 2 1) Ishl ++ put_word ++ returns_nothing ++ rest)))
      (half-pushed Little (int (cut_word program words value a pc p w page Little) ∷ indexed program words value a pc p w page Little) (set_code (backward_code 2 1) Ishl ++ put_word ++ returns_nothing ++ rest) 8 (gives None (after program words value a pc p w page Little)) (half-put program words value a pc p w page Little rest)))

  new_word-is : (order : Order) → a % 2 ≡ 0 → IsWord (word_there program words value a p w page) → new_word program words value a pc p w page order ≡ with_two (word_there program words value a p w page) (a % 4) (first_byte order value) (second_byte order value)
  new_word-is order even word =
      let u = word_there program words value a p w page in
      ap (half_replaced u (computed_half order value)) (backward-half-is a even)
      ∙ ap (λ h. half_replaced u h (16 - 8 * (a % 4))) (computed_half-is order value)
      ∙ half-replaced-is u (first_byte order value) (second_byte order value) word (first_byte-lt order value) (second_byte-lt order value) (a % 4) (even-place a even)

-- the memory with two bytes
two-bytes : (order : Order) (m : Memory) (a value : ℕ) → with_byte (with_byte m a (first_byte order value)) (a + 1) (second_byte order value) ≡ memory_stored Sh order m a value
two-bytes Big m a value = refl
two-bytes Little m a value = refl

pub sh-done : (program : Program) (words pc value a readable writable : ℕ) (order : Order) (memory : Memory) (w : Workspace) → IsWord a → (tables : HoldsTables w readable writable memory) → (a % 2 == 0) ≡ true → memory.writable a ≡ true → Gives program words store_turns (helper_code order (store_helper Sh)) (given_to_store value a pc) w None (LeavesMemory w readable writable (memory_stored Sh order memory a value))
sh-done program words pc value a readable writable order memory w a_word tables aligned may =
    let p = place program words pc value a readable writable memory w tables may in
    let its_page = page program words pc value a readable writable memory w tables may in
    let old = old_word program words pc value a readable writable memory w tables may in
    let word = old_word-is program words pc value a readable writable memory w tables may in
    let c = first_byte order value in
    let d = second_byte order value in
    let even : a % 2 ≡ 0 = eqb-true (a % 2) 0 aligned in
    let first_is = IsWord-with_lane old (a % 4) c word (omega arith) (first_byte-lt order value) in
    let next : (a + 1) % 4 ≡ a % 4 + 1 = omega arith in
    store-done program words pc value a readable writable memory w tables may 2 1 (found_code order Sh ++ returns_nothing) (write_fault_code 1 ++ returns_nothing) (locals program words value a pc p w its_page order) (new_word program words value a pc p w its_page order) (with_two old (a % 4) c d) (memory_stored Sh order memory a value)
    (tested-as program words value a pc w 2 1 (a % 2 == 0) aligned (half-tested program words value a pc w a_word))
    (stops-within (lit≤ tt) (half-stored program words value a pc p w its_page order (stack Pop ∷ write_fault_code 1 ++ returns_nothing)))
    (new_word-is program words value a pc p w its_page order even word)
    (IsWord-with_lane (word_with_lane old (a % 4) c) (a % 4 + 1) d first_is (omega arith) (second_byte-lt order value))
    (ap (λ i. with_word_at memory (a / 4) (word_with_lane (word_with_lane old (a % 4) c) i d)) (sym next)
    ∙ sym (lane-put memory (a / 4) (word_with_lane old (a % 4) c) (a + 1) d (omega arith) first_is (second_byte-lt order value))
    ∙ ap (λ m. with_byte m (a + 1) d) (sym (lane-put memory (a / 4) old a c refl word (first_byte-lt order value)))
    ∙ ap (λ m. with_byte (with_byte m a c) (a + 1) d) (word-kept memory (a / 4) old (old_word-there program words pc value a readable writable memory w tables may))
    ∙ two-bytes order memory a value)
