-- The code that stores a part of a word.
use Rattle.std.proofs.Common.{◌≡◌, ℕ, ◌/◌, ◌%◌, bit_and, bit_or, bit_xor, List, [], ◌∷◌, ◌++◌, None, refl}
use Rattle.run_definition.specs.declared.order.Order.TheVariants.{Big, Little}
use Rattle.jvm_definition.specs.declared.int_shift.IntShift.{IntShift}
use Rattle.jvm_definition.specs.declared.value.Value.{Value}
use Rattle.jvm_definition.specs.declared.value.Value.TheVariants.{Int as int, Array as array}
use Rattle.jvm_definition.specs.Program.{Program}
use Rattle.jvm_definition.specs.Words.{int_shifted}
use Rattle.jvm_definition.specs.Effect.{Workspace, gives}
use Rattle.emit_steps.specs.declared.step.Step.{Step}
use Rattle.emit_steps.specs.Outcomes.{outcome}
use Rattle.mem_helpers.specs.declared.amount.Amount.TheVariants.{Forward, Backward}
use Rattle.mem_helpers.specs.Parts.{load, forward_code, backward_code, ordered_code}
use Rattle.mem_helpers.specs.Stores.{cleared_code, set_code, part_code, put_word, returns_nothing}
use Rattle.emit_simulation_laws.specs.Match.{IsPage}
use Rattle.mem_helpers_laws.proofs.StoreLaws.Stopping.{Stops, laters, stops-after}
use Rattle.mem_helpers_laws.proofs.StoreLaws.Accessing.{begins, holding}
use Rattle.mem_helpers_laws.proofs.StoreLaws.Reversing.{turned_round}
use Rattle.mem_helpers_laws.proofs.StoreLaws.Amounts.{forward_amount, backward_amount}
use Rattle.mem_helpers_laws.proofs.StoreLaws.Pieces.{word_there, having, stored_at, returned, word-put, word-read, cut-forward, cut-backward, set-forward, set-backward, keeping, turned-pushed}

-- the word without the bits that a shift leaves, and with those of another one
abbrev pub part_cut : IntShift → ℕ → ℕ → ℕ
part_cut name n u = bit_and u (bit_xor (int_shifted name 0xFFFFFFFF n) 0xFFFFFFFF)

abbrev pub part_set : IntShift → ℕ → ℕ → ℕ → ℕ
part_set name n u v = bit_or (part_cut name n u) (int_shifted name v n)

module _ (program : Program) (words value a pc p : ℕ) (w : Workspace) (page : IsPage w.heap p) (name : IntShift) where
  abbrev pub begun : ℕ → Value
  begun = (begins program words value a pc w).locals

  abbrev pub there : ℕ
  there = word_there program words value a p w page

  abbrev indexed : List Value
  indexed = int (a / 4 % 1024) ∷ array p ∷ []

  put : (locals : ℕ → Value) (v : ℕ) (rest : List Step) → Stops 1 (outcome program words (put_word ++ returns_nothing ++ rest) (having program words value a p w page locals (int v ∷ indexed))) (gives None (stored_at program words value a p w page locals v))
  put locals v rest =
      stops-after 1 (word-put program words value a p w page locals v (returns_nothing ++ rest)) (returned program words value a p w page locals v rest)

  -- the word that is stored is on the stack
  value-pushed : (locals : ℕ → Value) → locals 0 ≡ int value → (operands : List Value) (rest : List Step) → outcome program words (load 0 ∷ rest) (having program words value a p w page locals operands) ≡ laters 1 (outcome program words rest (having program words value a p w page locals (int value ∷ operands)))
  value-pushed locals is operands rest = simp is refl

  pub big-forward : (rest : List Step) → Stops 22 (outcome program words (part_code Big name Forward ++ returns_nothing ++ rest) (holding program words value a pc w (array p ∷ []))) (gives None (stored_at program words value a p w page begun (part_set name (forward_amount a) there value)))
  big-forward rest =
      stops-after 7 (word-read program words value a p w page begun refl (cleared_code 0xFFFFFFFF (forward_code 1) name ++ (load 0 ∷ (set_code (forward_code 1) name ++ put_word ++ returns_nothing ++ rest))))
      (stops-after 8 (cut-forward program words value a p w page begun refl 0xFFFFFFFF there name indexed (load 0 ∷ (set_code (forward_code 1) name ++ put_word ++ returns_nothing ++ rest)))
      (stops-after 1 (value-pushed begun refl (int (part_cut name (forward_amount a) there) ∷ indexed) (set_code (forward_code 1) name ++ put_word ++ returns_nothing ++ rest))
      (stops-after 5 (set-forward program words value a p w page begun refl value (part_cut name (forward_amount a) there) name indexed (put_word ++ returns_nothing ++ rest))
      (put begun (part_set name (forward_amount a) there value) rest))))

  pub big-backward : (rest : List Step) → Stops 26 (outcome program words (part_code Big name Backward ++ returns_nothing ++ rest) (holding program words value a pc w (array p ∷ []))) (gives None (stored_at program words value a p w page begun (part_set name (backward_amount 3 a) there value)))
  big-backward rest =
      stops-after 7 (word-read program words value a p w page begun refl (cleared_code 0xFFFFFFFF (backward_code 3 1) name ++ (load 0 ∷ (set_code (backward_code 3 1) name ++ put_word ++ returns_nothing ++ rest))))
      (stops-after 10 (cut-backward program words value a p w page begun refl 0xFFFFFFFF 3 there name indexed (load 0 ∷ (set_code (backward_code 3 1) name ++ put_word ++ returns_nothing ++ rest)))
      (stops-after 1 (value-pushed begun refl (int (part_cut name (backward_amount 3 a) there) ∷ indexed) (set_code (backward_code 3 1) name ++ put_word ++ returns_nothing ++ rest))
      (stops-after 7 (set-backward program words value a p w page begun refl 3 value (part_cut name (backward_amount 3 a) there) name indexed (put_word ++ returns_nothing ++ rest))
      (put begun (part_set name (backward_amount 3 a) there value) rest))))

  -- ---- the word is turned into the guest's order and back

  abbrev pub turned : ℕ
  turned = turned_round there

  abbrev pub kept : ℕ → Value
  kept = keeping program words value a p w page begun there

  abbrev pub kept_again : ℕ → ℕ → Value
  kept_again n = keeping program words value a p w page kept (part_set name n turned value)

  -- what comes behind the part that is set
  turned-put : (n : ℕ) (rest : List Step) → Stops 21 (outcome program words (ordered_code Little 3 ++ put_word ++ returns_nothing ++ rest) (having program words value a p w page kept (int (part_set name n turned value) ∷ indexed))) (gives None (stored_at program words value a p w page (kept_again n) (turned_round (part_set name n turned value))))
  turned-put n rest =
      stops-after 20 (turned-pushed program words value a p w page kept (part_set name n turned value) indexed (put_word ++ returns_nothing ++ rest))
      (put (kept_again n) (turned_round (part_set name n turned value)) rest)

  pub little-forward : (rest : List Step) → Stops 62 (outcome program words (part_code Little name Forward ++ returns_nothing ++ rest) (holding program words value a pc w (array p ∷ []))) (gives None (stored_at program words value a p w page (kept_again (forward_amount a)) (turned_round (part_set name (forward_amount a) turned value))))
  little-forward rest =
      stops-after 7 (word-read program words value a p w page begun refl (ordered_code Little 3 ++ cleared_code 0xFFFFFFFF (forward_code 1) name ++ (load 0 ∷ (set_code (forward_code 1) name ++ ordered_code Little 3 ++ put_word ++ returns_nothing ++ rest))))
      (stops-after 20 (turned-pushed program words value a p w page begun there indexed (cleared_code 0xFFFFFFFF (forward_code 1) name ++ (load 0 ∷ (set_code (forward_code 1) name ++ ordered_code Little 3 ++ put_word ++ returns_nothing ++ rest))))
      (stops-after 8 (cut-forward program words value a p w page kept refl 0xFFFFFFFF turned name indexed (load 0 ∷ (set_code (forward_code 1) name ++ ordered_code Little 3 ++ put_word ++ returns_nothing ++ rest)))
      (stops-after 1 (value-pushed kept refl (int (part_cut name (forward_amount a) turned) ∷ indexed) (set_code (forward_code 1) name ++ ordered_code Little 3 ++ put_word ++ returns_nothing ++ rest))
      (stops-after 5 (set-forward program words value a p w page kept refl value (part_cut name (forward_amount a) turned) name indexed (ordered_code Little 3 ++ put_word ++ returns_nothing ++ rest))
      (turned-put (forward_amount a) rest)))))

  pub little-backward : (rest : List Step) → Stops 66 (outcome program words (part_code Little name Backward ++ returns_nothing ++ rest) (holding program words value a pc w (array p ∷ []))) (gives None (stored_at program words value a p w page (kept_again (backward_amount 3 a)) (turned_round (part_set name (backward_amount 3 a) turned value))))
  little-backward rest =
      stops-after 7 (word-read program words value a p w page begun refl (ordered_code Little 3 ++ cleared_code 0xFFFFFFFF (backward_code 3 1) name ++ (load 0 ∷ (set_code (backward_code 3 1) name ++ ordered_code Little 3 ++ put_word ++ returns_nothing ++ rest))))
      (stops-after 20 (turned-pushed program words value a p w page begun there indexed (cleared_code 0xFFFFFFFF (backward_code 3 1) name ++ (load 0 ∷ (set_code (backward_code 3 1) name ++ ordered_code Little 3 ++ put_word ++ returns_nothing ++ rest))))
      (stops-after 10 (cut-backward program words value a p w page kept refl 0xFFFFFFFF 3 turned name indexed (load 0 ∷ (set_code (backward_code 3 1) name ++ ordered_code Little 3 ++ put_word ++ returns_nothing ++ rest)))
      (stops-after 1 (value-pushed kept refl (int (part_cut name (backward_amount 3 a) turned) ∷ indexed) (set_code (backward_code 3 1) name ++ ordered_code Little 3 ++ put_word ++ returns_nothing ++ rest))
      (stops-after 7 (set-backward program words value a p w page kept refl 3 value (part_cut name (backward_amount 3 a) turned) name indexed (ordered_code Little 3 ++ put_word ++ returns_nothing ++ rest))
      (turned-put (backward_amount 3 a) rest)))))
