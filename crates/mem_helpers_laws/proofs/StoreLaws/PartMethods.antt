-- The methods of SWL and SWR.
use Rattle.std.proofs.Common.{◌≡◌, ℕ, ◌+◌, ◌-◌, ◌*◌, ◌/◌, ◌%◌, ◌^◌, ◌<◌, nat_lt, Bool, true, false, if◌then◌else◌, [], ◌∷◌, ◌++◌, None, ap, ◌∙◌, sym, arith, lit≤}
use Rattle.run_definition.specs.Words.{IsWord, lane_of_word}
use Rattle.run_definition.specs.declared.order.Order.{Order}
use Rattle.run_definition.specs.declared.order.Order.TheVariants.{Big, Little}
use Rattle.nv_words.proofs.LaneLemmas.{lane_of_word-lt, word_of_lanes}
use Rattle.run_definition.specs.Memory.{Memory}
use Rattle.mips_definition.specs.Loads.{memory_stored}
use Rattle.mips_definition.specs.Memory.{with_lanes, left_part, right_part}
use Rattle.mips_definition.specs.declared.names.store_name.StoreName.{StoreName}
use Rattle.mips_definition.specs.declared.names.store_name.StoreName.TheVariants.{Swl, Swr}
use Rattle.jvm_definition.specs.declared.int_shift.IntShift.TheVariants.{Ishl, Iushr}
use Rattle.jvm_definition.specs.declared.stack_name.StackName.TheVariants.{Pop}
use Rattle.jvm_definition.specs.declared.value.Value.{Value}
use Rattle.jvm_definition.specs.declared.value.Value.TheVariants.{Array as array}
use Rattle.jvm_definition.specs.Program.{Program}
use Rattle.jvm_definition.specs.Effect.{Workspace, gives}
use Rattle.emit_steps.specs.Outcomes.{outcome}
use Rattle.emit_layout.specs.FieldNumbers.{writable_field}
use Rattle.emit_instructions.specs.Helpers.{store_helper}
use Rattle.mem_helpers.specs.Parts.{stack, accessed}
use Rattle.mem_helpers.specs.Stores.{write_fault_code, returns_nothing}
use Rattle.mem_helpers.specs.Methods.{helper_code}
use Rattle.emit_simulation_laws.specs.Match.{IsPage}
use Rattle.emit_simulation_laws.specs.Memory.{with_word_at}
use Rattle.emit_simulation_laws.specs.Outcomes.{Gives}
use Rattle.mem_helpers_laws.specs.Storing.{HoldsTables, LeavesMemory, given_to_store, store_turns}
use Rattle.mem_helpers_laws.proofs.StoreLaws.Stopping.{Stops, stops-within}
use Rattle.mem_helpers_laws.proofs.StoreLaws.Accessing.{holding}
use Rattle.mem_helpers_laws.proofs.StoreLaws.Ending.{byte-tested}
use Rattle.mem_helpers_laws.proofs.StoreLaws.Refusals.{found_code}
use Rattle.mem_helpers_laws.proofs.StoreLaws.Lanes.{word-kept}
use Rattle.mem_helpers_laws.proofs.StoreLaws.Amounts.{forward_amount, backward_amount, forward-is, backward-is}
use Rattle.mem_helpers_laws.proofs.StoreLaws.Reversing.{turned_round, turned_round-is}
use Rattle.mem_helpers_laws.proofs.StoreLaws.Bytes.{word_of, word_of-lt, word_of-turned, AreBytes, left_replaced, right_replaced, left_bytes, right_bytes, left-is, right-is}
use Rattle.mem_helpers_laws.proofs.StoreLaws.Partial.{left_lanes, right_lanes, in_page, left-stored, right-stored}
use Rattle.mem_helpers_laws.proofs.StoreLaws.PartCode.{part_set, begun, kept_again, big-forward, big-backward, little-forward, little-backward}
use Rattle.mem_helpers_laws.proofs.StoreLaws.Done.{place, page, old_word, old_word-is, old_word-there, after_word, store-done}

-- ---- the words that code computes

either-byte : (t : Bool) (x y : ℕ) → x < 2 ^ 8 → y < 2 ^ 8 → (if t then x else y) < 2 ^ 8
either-byte true x y hx hy = hx
either-byte false x y hx hy = hy

left-lt : (s : ℕ) (f g : ℕ → ℕ) → AreBytes f → AreBytes g → AreBytes (left_bytes s f g)
left-lt s f g fs gs n = either-byte (nat_lt n s) (f n) (g (n - s)) (fs n) (gs (n - s))

right-lt : (s : ℕ) (f g : ℕ → ℕ) → AreBytes f → AreBytes g → AreBytes (right_bytes s f g)
right-lt s f g fs gs n = either-byte (nat_lt (n + s) 4) (g (n + s)) (f n) (gs (n + s)) (fs n)

in_page-lt : (order : Order) (f : ℕ → ℕ) → AreBytes f → AreBytes (in_page order f)
in_page-lt Big f fs = fs
in_page-lt Little f fs = λ n. fs (3 - n)

-- turned round
turned-of : (f : ℕ → ℕ) → AreBytes f → turned_round (word_of f) ≡ word_of (λ n. f (3 - n))
turned-of f fs = turned_round-is (word_of f) (word_of-lt f fs) ∙ word_of-turned f fs

module _ (old value a : ℕ) (old_word : IsWord old) (value_word : IsWord value) where
  abbrev f : ℕ → ℕ
  f = lane_of_word old

  abbrev g : ℕ → ℕ
  g = lane_of_word value

  fs : AreBytes f
  fs = lane_of_word-lt old

  gs : AreBytes g
  gs = lane_of_word-lt value

  -- the whole words are those of their lanes
  of-lanes : (replaced : ℕ → ℕ → ℕ → ℕ) (n s : ℕ) → n ≡ 8 * s → replaced old value n ≡ replaced (word_of f) (word_of g) (8 * s)
  of-lanes replaced n s is =
      ap (replaced old value) is
      ∙ ap (λ x. replaced x value (8 * s)) (sym (word_of_lanes old old_word))
      ∙ ap (λ y. replaced (word_of f) y (8 * s)) (sym (word_of_lanes value value_word))

  of-turned : (replaced : ℕ → ℕ → ℕ → ℕ) (n s : ℕ) → n ≡ 8 * s → replaced (turned_round old) value n ≡ replaced (word_of (λ k. f (3 - k))) (word_of g) (8 * s)
  of-turned replaced n s is =
      ap (replaced (turned_round old) value) is
      ∙ ap (λ x. replaced x value (8 * s)) (turned_round-is old old_word)
      ∙ ap (λ y. replaced (word_of (λ k. f (3 - k))) y (8 * s)) (sym (word_of_lanes value value_word))

  backward-lanes : backward_amount 3 a % 32 ≡ 8 * (3 - a % 4)
  backward-lanes = backward-is a ∙ omega arith

  left-big : left_replaced old value (forward_amount a % 32) ≡ word_of (left_bytes (a % 4) f g)
  left-big = of-lanes left_replaced (forward_amount a % 32) (a % 4) (forward-is a) ∙ left-is f g fs gs (a % 4) (omega arith)

  right-big : right_replaced old value (backward_amount 3 a % 32) ≡ word_of (right_bytes (3 - a % 4) f g)
  right-big = of-lanes right_replaced (backward_amount 3 a % 32) (3 - a % 4) backward-lanes ∙ right-is f g fs gs (3 - a % 4) (omega arith)

  left-little : turned_round (left_replaced (turned_round old) value (backward_amount 3 a % 32)) ≡ word_of (λ n. left_bytes (3 - a % 4) (λ k. f (3 - k)) g (3 - n))
  left-little =
      ap turned_round (of-turned left_replaced (backward_amount 3 a % 32) (3 - a % 4) backward-lanes ∙ left-is (λ k. f (3 - k)) g (λ k. fs (3 - k)) gs (3 - a % 4) (omega arith))
      ∙ turned-of (left_bytes (3 - a % 4) (λ k. f (3 - k)) g) (left-lt (3 - a % 4) (λ k. f (3 - k)) g (λ k. fs (3 - k)) gs)

  right-little : turned_round (right_replaced (turned_round old) value (forward_amount a % 32)) ≡ word_of (λ n. right_bytes (a % 4) (λ k. f (3 - k)) g (3 - n))
  right-little =
      ap turned_round (of-turned right_replaced (forward_amount a % 32) (a % 4) (forward-is a) ∙ right-is (λ k. f (3 - k)) g (λ k. fs (3 - k)) gs (a % 4) (omega arith))
      ∙ turned-of (right_bytes (a % 4) (λ k. f (3 - k)) g) (right-lt (a % 4) (λ k. f (3 - k)) g (λ k. fs (3 - k)) gs)

  -- what is stored
  abbrev left_word : Order → ℕ
  left_word order = word_of (in_page order (left_bytes (left_lanes order (a % 4)) (in_page order f) g))

  abbrev right_word : Order → ℕ
  right_word order = word_of (in_page order (right_bytes (right_lanes order (a % 4)) (in_page order f) g))

  left_word-lt : (order : Order) → IsWord (left_word order)
  left_word-lt order =
      word_of-lt (in_page order (left_bytes (left_lanes order (a % 4)) (in_page order f) g)) (in_page-lt order (left_bytes (left_lanes order (a % 4)) (in_page order f) g) (left-lt (left_lanes order (a % 4)) (in_page order f) g (in_page-lt order f fs) gs))

  right_word-lt : (order : Order) → IsWord (right_word order)
  right_word-lt order =
      word_of-lt (in_page order (right_bytes (right_lanes order (a % 4)) (in_page order f) g)) (in_page-lt order (right_bytes (right_lanes order (a % 4)) (in_page order f) g) (right-lt (right_lanes order (a % 4)) (in_page order f) g (in_page-lt order f fs) gs))

-- ---- the methods

module _ (program : Program) (words pc value a readable writable : ℕ) (memory : Memory) (w : Workspace) (value_word : IsWord value) (a_word : IsWord a) (tables : HoldsTables w readable writable memory) (may : memory.writable a ≡ true) where
  abbrev p : ℕ
  p = place program words pc value a readable writable memory w tables may

  abbrev old : ℕ
  old = old_word program words pc value a readable writable memory w tables may

  old-is : IsWord old
  old-is = old_word-is program words pc value a readable writable memory w tables may

  -- memory holds the old word by its lanes
  by-lanes : with_word_at memory (a / 4) (word_of (lane_of_word old)) ≡ memory
  by-lanes =
      ap (with_word_at memory (a / 4)) (word_of_lanes old old-is)
      ∙ word-kept memory (a / 4) old (old_word-there program words pc value a readable writable memory w tables may)

  left-after : (order : Order) → with_word_at memory (a / 4) (left_word old value a old-is value_word order) ≡ memory_stored Swl order memory a value
  left-after order =
      sym (left-stored memory a value (lane_of_word old) (lane_of_word-lt old) order) ∙ ap (λ m. with_lanes m (left_part order a) value) by-lanes

  right-after : (order : Order) → with_word_at memory (a / 4) (right_word old value a old-is value_word order) ≡ memory_stored Swr order memory a value
  right-after order =
      sym (right-stored memory a value (lane_of_word old) (lane_of_word-lt old) order) ∙ ap (λ m. with_lanes m (right_part order a) value) by-lanes

  abbrev its_page : IsPage w.heap p
  its_page = page program words pc value a readable writable memory w tables may

  -- from what the code behind the page comes to
  part-done : (name : StoreName) (order : Order) (locals : ℕ → Value) (u v : ℕ) (after : Memory) → Stops 69 (outcome program words (found_code order name ++ returns_nothing ++ stack Pop ∷ (write_fault_code 0 ++ returns_nothing)) (holding program words value a pc w (array p ∷ []))) (gives None (after_word program words pc value a readable writable memory w tables may locals u)) → u ≡ v → IsWord v → with_word_at memory (a / 4) v ≡ after → Gives program words store_turns (accessed writable_field 1 1 (found_code order name ++ returns_nothing) (write_fault_code 0 ++ returns_nothing)) (given_to_store value a pc) w None (LeavesMemory w readable writable after)
  part-done name order locals u v after ends same word is =
      store-done program words pc value a readable writable memory w tables may 1 0 (found_code order name ++ returns_nothing) (write_fault_code 0 ++ returns_nothing) locals u v after
      (byte-tested program words value a pc w a_word) ends same word is

  pub swl-done : (order : Order) → Gives program words store_turns (helper_code order (store_helper Swl)) (given_to_store value a pc) w None (LeavesMemory w readable writable (memory_stored Swl order memory a value))
  swl-done Big =
      part-done Swl Big (begun program words value a pc p w its_page Iushr) (part_set Iushr (forward_amount a) old value) (left_word old value a old-is value_word Big) (memory_stored Swl Big memory a value)
      (stops-within (lit≤ tt) (big-forward program words value a pc p w its_page Iushr (stack Pop ∷ write_fault_code 0 ++ returns_nothing)))
      (left-big old value a old-is value_word) (left_word-lt old value a old-is value_word Big) (left-after Big)
  swl-done Little =
      part-done Swl Little (kept_again program words value a pc p w its_page Iushr (backward_amount 3 a)) (turned_round (part_set Iushr (backward_amount 3 a) (turned_round old) value)) (left_word old value a old-is value_word Little) (memory_stored Swl Little memory a value)
      (stops-within (lit≤ tt) (little-backward program words value a pc p w its_page Iushr (stack Pop ∷ write_fault_code 0 ++ returns_nothing)))
      (left-little old value a old-is value_word) (left_word-lt old value a old-is value_word Little) (left-after Little)

  pub swr-done : (order : Order) → Gives program words store_turns (helper_code order (store_helper Swr)) (given_to_store value a pc) w None (LeavesMemory w readable writable (memory_stored Swr order memory a value))
  swr-done Big =
      part-done Swr Big (begun program words value a pc p w its_page Ishl) (part_set Ishl (backward_amount 3 a) old value) (right_word old value a old-is value_word Big) (memory_stored Swr Big memory a value)
      (stops-within (lit≤ tt) (big-backward program words value a pc p w its_page Ishl (stack Pop ∷ write_fault_code 0 ++ returns_nothing)))
      (right-big old value a old-is value_word) (right_word-lt old value a old-is value_word Big) (right-after Big)
  swr-done Little =
      part-done Swr Little (kept_again program words value a pc p w its_page Ishl (forward_amount a)) (turned_round (part_set Ishl (forward_amount a) (turned_round old) value)) (right_word old value a old-is value_word Little) (memory_stored Swr Little memory a value)
      (stops-within (lit≤ tt) (little-forward program words value a pc p w its_page Ishl (stack Pop ∷ write_fault_code 0 ++ returns_nothing)))
      (right-little old value a old-is value_word) (right_word-lt old value a old-is value_word Little) (right-after Little)
