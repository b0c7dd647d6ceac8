-- SW stores a whole word.
use Rattle.std.proofs.Common.{◌≡◌, ℕ, ◌/◌, ◌%◌, List, [], ◌∷◌, ◌++◌, None, refl, lit≤}
use Rattle.run_definition.specs.Words.{IsWord}
use Rattle.run_definition.specs.declared.order.Order.{Order}
use Rattle.run_definition.specs.declared.order.Order.TheVariants.{Big, Little}
use Rattle.mips_definition.specs.Memory.{word_of_lanes}
use Rattle.jvm_definition.specs.declared.value.Value.{Value}
use Rattle.jvm_definition.specs.declared.value.Value.TheVariants.{Int as int, Array as array}
use Rattle.jvm_definition.specs.Program.{Program}
use Rattle.jvm_definition.specs.Effect.{Workspace, gives}
use Rattle.emit_steps.specs.declared.step.Step.{Step}
use Rattle.emit_steps.specs.Outcomes.{outcome}
use Rattle.mem_helpers.specs.Parts.{load, index_code, reversed_code}
use Rattle.mem_helpers.specs.Stores.{value_code, put_word, returns_nothing}
use Rattle.emit_simulation_laws.specs.Match.{IsPage}
use Rattle.mem_helpers_laws.proofs.StoreLaws.Stopping.{Stops, laters, stops-after, stops-within}
use Rattle.mem_helpers_laws.proofs.StoreLaws.Accessing.{begins, holding}
use Rattle.mem_helpers_laws.proofs.StoreLaws.Pieces.{stored_at, returned, word-put, index-pushed}
use Rattle.mem_helpers_laws.proofs.StoreLaws.Reversing.{turned_round, turned_round-is}

-- the word as code computes it
abbrev pub computed_word : Order → ℕ → ℕ
computed_word Big w = w
computed_word Little w = turned_round w

pub computed_word-is : (order : Order) (w : ℕ) → IsWord w → computed_word order w ≡ word_of_lanes order w
computed_word-is Big w word = refl
computed_word-is Little w word = turned_round-is w word

module _ (program : Program) (words value a pc p : ℕ) (w : Workspace) (page : IsPage w.heap p) where
  abbrev pub locals : ℕ → Value
  locals = (begins program words value a pc w).locals

  -- after the store
  abbrev whole_stored_at : ℕ → Workspace
  whole_stored_at v = stored_at program words value a p w page locals v

  pub value-pushed : (operands : List Value) (rest : List Step) → outcome program words (reversed_code 0 ++ rest) (holding program words value a pc w operands) ≡ laters 19 (outcome program words rest (holding program words value a pc w (int (turned_round value) ∷ operands)))
  value-pushed operands rest = refl

  -- the code that puts a word on the stack is known
  put : (v : ℕ) (rest : List Step) → Stops 1 (outcome program words (put_word ++ returns_nothing ++ rest) (holding program words value a pc w (int v ∷ int (a / 4 % 1024) ∷ array p ∷ []))) (gives None (whole_stored_at v))
  put v rest =
      stops-after 1 (word-put program words value a p w page locals v (returns_nothing ++ rest)) (returned program words value a p w page locals v rest)

  pub word-stored : (order : Order) (rest : List Step) → Stops 25 (outcome program words (index_code 1 ++ value_code order ++ put_word ++ returns_nothing ++ rest) (holding program words value a pc w (array p ∷ []))) (gives None (whole_stored_at (computed_word order value)))
  word-stored Big rest =
      stops-within {most = 7} (lit≤ tt)
      (stops-after 5 (index-pushed program words value a p w page locals refl (array p ∷ []) (load 0 ∷ put_word ++ returns_nothing ++ rest))
      (stops-after 1 {p = outcome program words (put_word ++ returns_nothing ++ rest) (holding program words value a pc w (int value ∷ int (a / 4 % 1024) ∷ array p ∷ []))} refl (put value rest)))
  word-stored Little rest =
      stops-after 5 (index-pushed program words value a p w page locals refl (array p ∷ []) (reversed_code 0 ++ put_word ++ returns_nothing ++ rest))
      (stops-after 19 (value-pushed (int (a / 4 % 1024) ∷ array p ∷ []) (put_word ++ returns_nothing ++ rest)) (put (turned_round value) rest))
