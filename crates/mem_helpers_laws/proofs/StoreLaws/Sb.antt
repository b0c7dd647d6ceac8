-- SB: a byte of a word is replaced.
use Rattle.std.proofs.Common.{◌≡◌, ℕ, ◌-◌, ◌*◌, ◌/◌, ◌%◌, ◌^◌, ◌<◌, bit_and, bit_or, bit_xor, true, List, [], ◌∷◌, ◌++◌, None, refl, ap, ◌∙◌, sym, arith, lit≤, lit<}
use Rattle.std.proofs.lemmas.Nat.{and_mask}
use Rattle.run_definition.specs.Words.{IsWord, lane_of_word, word_with_lane}
use Rattle.run_definition.specs.declared.order.Order.{Order}
use Rattle.nv_words.proofs.LaneLemmas.{below_four, lane_of_word-lt, IsWord-with_lane}
use Rattle.run_definition.specs.Memory.{Memory}
use Rattle.mips_definition.specs.Memory.{with_byte}
use Rattle.mips_definition.specs.Loads.{memory_stored}
use Rattle.mips_definition.specs.declared.names.store_name.StoreName.TheVariants.{Sb}
use Rattle.jvm_definition.specs.declared.int_shift.IntShift.TheVariants.{Ishl}
use Rattle.jvm_definition.specs.declared.stack_name.StackName.TheVariants.{Pop}
use Rattle.jvm_definition.specs.declared.value.Value.{Value}
use Rattle.jvm_definition.specs.declared.value.Value.TheVariants.{Int as int, Array as array}
use Rattle.jvm_definition.specs.Program.{Program}
use Rattle.jvm_definition.specs.Effect.{Workspace, gives}
use Rattle.emit_steps.specs.declared.step.Step.{Step}
use Rattle.emit_steps.specs.Outcomes.{outcome}
use Rattle.emit_instructions.specs.Helpers.{store_helper}
use Rattle.mem_helpers.specs.Parts.{stack, backward_code}
use Rattle.mem_helpers.specs.Stores.{cleared_code, byte_value_code, set_code, put_word, write_fault_code, returns_nothing}
use Rattle.mem_helpers.specs.Methods.{helper_code}
use Rattle.emit_simulation_laws.specs.Match.{IsPage}
use Rattle.emit_simulation_laws.specs.Outcomes.{Gives}
use Rattle.mem_helpers_laws.specs.Storing.{HoldsTables, LeavesMemory, given_to_store, store_turns}
use Rattle.mem_helpers_laws.proofs.StoreLaws.Stopping.{Stops, laters, stops-after, stops-within}
use Rattle.mem_helpers_laws.proofs.StoreLaws.Done.{place, page, old_word, old_word-is, old_word-there, store-done}
use Rattle.mem_helpers_laws.proofs.StoreLaws.Accessing.{begins, holding}
use Rattle.mem_helpers_laws.proofs.StoreLaws.Ending.{byte-tested}
use Rattle.mem_helpers_laws.proofs.StoreLaws.Refusals.{found_code}
use Rattle.mem_helpers_laws.proofs.StoreLaws.Lanes.{word-kept, lane-put}
use Rattle.mem_helpers_laws.proofs.StoreLaws.Amounts.{backward_amount, backward-is}
use Rattle.mem_helpers_laws.proofs.StoreLaws.Bits.{replaced, replaced-is, whole-shifted}
use Rattle.mem_helpers_laws.proofs.StoreLaws.Pieces.{word_there, stored_at, returned, word-put, word-read, cut-backward, set-backward}

-- ---- the word, as code computes it

abbrev pub byte_replaced : ℕ → ℕ → ℕ → ℕ
byte_replaced u b n = bit_or (bit_and u (bit_xor (255 * 2 ^ n % 2 ^ 32) 0xFFFFFFFF)) (b * 2 ^ n % 2 ^ 32)

byte-replaced-is : (u b : ℕ) → IsWord u → b < 2 ^ 8 → (i : ℕ) → i < 4 → byte_replaced u b (24 - 8 * i) ≡ word_with_lane u i b
byte-replaced-is u b word byte i below =
    below_four (λ i. byte_replaced u b (24 - 8 * i) ≡ word_with_lane u i b)
    (whole-shifted u b 24 0x00FFFFFF (replaced u 8 24 b) (word_with_lane u 0 b) (omega arith) (replaced-is u b 8 24 word (lit< tt) byte) (omega arith))
    (whole-shifted u b 16 0xFF00FFFF (replaced u 8 16 b) (word_with_lane u 1 b) (omega arith) (replaced-is u b 8 16 word (lit< tt) byte) (omega arith))
    (whole-shifted u b 8 0xFFFF00FF (replaced u 8 8 b) (word_with_lane u 2 b) (omega arith) (replaced-is u b 8 8 word (lit< tt) byte) (omega arith))
    (whole-shifted u b 0 0xFFFFFF00 (replaced u 8 0 b) (word_with_lane u 3 b) (omega arith) (replaced-is u b 8 0 word (lit< tt) byte) (omega arith))
    i below

module _ (program : Program) (words value a pc p : ℕ) (w : Workspace) (page : IsPage w.heap p) where
  abbrev locals : ℕ → Value
  locals = (begins program words value a pc w).locals

  abbrev there : ℕ
  there = word_there program words value a p w page

  abbrev new_word : ℕ
  new_word = byte_replaced there (bit_and value 255) (backward_amount 3 a % 32)

  abbrev after : Workspace
  after = stored_at program words value a p w page locals new_word

  byte-pushed : (operands : List Value) (rest : List Step) → outcome program words (byte_value_code ++ rest) (holding program words value a pc w operands) ≡ laters 3 (outcome program words rest (holding program words value a pc w (int (bit_and value 255) ∷ operands)))
  byte-pushed operands rest = refl

  byte-stored : (order : Order) (rest : List Step) → Stops 28 (outcome program words (found_code order Sb ++ returns_nothing ++ rest) (holding program words value a pc w (array p ∷ []))) (gives None after)
  byte-stored order rest =
      stops-after 7 (word-read program words value a p w page locals refl (cleared_code 255 (backward_code 3 1) Ishl ++ byte_value_code ++ set_code (backward_code 3 1) Ishl ++ put_word ++ returns_nothing ++ rest))
      (stops-after 10 (cut-backward program words value a p w page locals refl 255 3 there Ishl (int (a / 4 % 1024) ∷ array p ∷ []) (byte_value_code ++ set_code (backward_code 3 1) Ishl ++ put_word ++ returns_nothing ++ rest))
      (stops-after 3 (byte-pushed (int (bit_and there (bit_xor (255 * 2 ^ (backward_amount 3 a % 32) % 2 ^ 32) 0xFFFFFFFF)) ∷ int (a / 4 % 1024) ∷ array p ∷ []) (set_code (backward_code 3 1) Ishl ++ put_word ++ returns_nothing ++ rest))
      (stops-after 7 (set-backward program words value a p w page locals refl 3 (bit_and value 255) (bit_and there (bit_xor (255 * 2 ^ (backward_amount 3 a % 32) % 2 ^ 32) 0xFFFFFFFF)) Ishl (int (a / 4 % 1024) ∷ array p ∷ []) (put_word ++ returns_nothing ++ rest))
      (stops-after 1 (word-put program words value a p w page locals new_word (returns_nothing ++ rest)) (returned program words value a p w page locals new_word rest)))))

  -- the new word
  new_word-is : IsWord there → new_word ≡ word_with_lane there (a % 4) (lane_of_word value 3)
  new_word-is word =
      ap (byte_replaced there (bit_and value 255)) (backward-is a)
      ∙ ap (λ b. byte_replaced there b (24 - 8 * (a % 4))) (and_mask value 8 ∙ low-byte)
      ∙ byte-replaced-is there (lane_of_word value 3) word (lane_of_word-lt value 3) (a % 4) (omega arith)
    where
      low-byte : value % 2 ^ 8 ≡ lane_of_word value 3
      low-byte = omega arith

pub sb-done : (program : Program) (words pc value a readable writable : ℕ) (order : Order) (memory : Memory) (w : Workspace) → IsWord a → (tables : HoldsTables w readable writable memory) → memory.writable a ≡ true → Gives program words store_turns (helper_code order (store_helper Sb)) (given_to_store value a pc) w None (LeavesMemory w readable writable (memory_stored Sb order memory a value))
sb-done program words pc value a readable writable order memory w a_word tables may =
    let p = place program words pc value a readable writable memory w tables may in
    let its_page = page program words pc value a readable writable memory w tables may in
    let old = old_word program words pc value a readable writable memory w tables may in
    let word = old_word-is program words pc value a readable writable memory w tables may in
    let b = lane_of_word value 3 in
    store-done program words pc value a readable writable memory w tables may 1 0 (found_code order Sb ++ returns_nothing) (write_fault_code 0 ++ returns_nothing) (locals program words value a pc p w its_page) (new_word program words value a pc p w its_page) (word_with_lane old (a % 4) b) (memory_stored Sb order memory a value)
    (byte-tested program words value a pc w a_word)
    (stops-within (lit≤ tt) (byte-stored program words value a pc p w its_page order (stack Pop ∷ write_fault_code 0 ++ returns_nothing)))
    (new_word-is program words value a pc p w its_page word)
    (IsWord-with_lane old (a % 4) b word (omega arith) (lane_of_word-lt value 3))
    (sym (lane-put memory (a / 4) old a b refl word (lane_of_word-lt value 3)) ∙ ap (λ m. with_byte m a b) (word-kept memory (a / 4) old (old_word-there program words pc value a readable writable memory w tables may)))
