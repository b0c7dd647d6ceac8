-- SC stores where the address is linked.
use Rattle.std.proofs.Common.{◌≡◌, ℕ, ◌/◌, ◌%◌, List, [], ◌∷◌, ◌++◌, length, Some, refl, arith, lit≤}
use Rattle.std.proofs.lemmas.Bool.{eq-eqb, ne_eqb}
use Rattle.run_definition.specs.Words.{IsWord}
use Rattle.run_definition.specs.declared.order.Order.{Order}
use Rattle.run_definition.specs.declared.order.Order.TheVariants.{Big, Little}
use Rattle.jvm_definition.specs.declared.branch_name.BranchName.TheVariants.{Ifeq, IfIcmpne}
use Rattle.jvm_definition.specs.declared.stack_name.StackName.TheVariants.{Pop}
use Rattle.jvm_definition.specs.declared.value.Value.TheVariants.{Int as int, Array as array}
use Rattle.jvm_definition.specs.Program.{Program}
use Rattle.jvm_definition.specs.Values.{Heap, with_int}
use Rattle.jvm_definition.specs.Effect.{Workspace, gives}
use Rattle.emit_steps.specs.declared.step.Step.{Step}
use Rattle.emit_steps.specs.declared.step.Step.TheVariants.{Skips}
use Rattle.emit_steps.specs.Outcomes.{outcome, outcome_from}
use Rattle.emit_instructions.specs.Access.{get_field}
use Rattle.emit_instructions.specs.Fields.{link_field, linked_field}
use Rattle.mem_helpers.specs.Parts.{load, stack, index_code, reversed_code}
use Rattle.mem_helpers.specs.Stores.{value_code, put_word, concluded_code}
use Rattle.emit_simulation_laws.specs.Match.{IsPage}
use Rattle.emit_simulation_laws.proofs.Signs.{same-signed}
use Rattle.mem_helpers_laws.specs.Linking.{unlinked}
use Rattle.mem_helpers_laws.proofs.StoreLaws.Stopping.{Stops, stops-after, stops-within, stops-past}
use Rattle.mem_helpers_laws.proofs.StoreLaws.Accessing.{begins, holding}
use Rattle.mem_helpers_laws.proofs.StoreLaws.Reversing.{turned_round}
use Rattle.mem_helpers_laws.proofs.StoreLaws.Pieces.{word-put, index-pushed}
use Rattle.mem_helpers_laws.proofs.StoreLaws.WholeWords.{locals, computed_word, value-pushed}

-- the code that stores and concludes, that for a linked address, and all that comes behind the page
abbrev pub store_code : Order → List Step
store_code order = index_code 1 ++ value_code order ++ put_word ++ concluded_code 1

abbrev pub linked_code : Order → List Step
linked_code order = get_field link_field ∷ load 1 ∷ Skips IfIcmpne (length (store_code order)) ∷ store_code order

abbrev pub conditional_code : Order → List Step
conditional_code order =
    get_field linked_field ∷ Skips Ifeq (length (linked_code order)) ∷ (linked_code order ++ stack Pop ∷ concluded_code 0)

module _ (program : Program) (words value a pc p : ℕ) (w : Workspace) where
  -- at the return, with a result
  abbrev pub concluded_at : ℕ → Heap → Workspace
  concluded_at n heap = record {
    locals = (begins program words value a pc w).locals;
    operands = int n ∷ [];
    fields = unlinked w;
    heap = heap;
  }

  concluded : (n : ℕ) (heap : Heap) (rest : List Step) → Stops 3 (outcome program words (concluded_code n ++ rest) (record { locals = (begins program words value a pc w).locals; operands = []; fields = w.fields; heap = heap })) (gives (Some (int n)) (concluded_at n heap))
  concluded n heap rest = record { turns = 3; step = 3; at = concluded_at n heap; is = refl; in_time = lit≤ tt }

  -- nothing is stored
  not-stored : (rest : List Step) → Stops 4 (outcome program words (stack Pop ∷ concluded_code 0 ++ rest) (holding program words value a pc w (array p ∷ []))) (gives (Some (int 0)) (concluded_at 0 w.heap))
  not-stored rest =
      stops-after 1 {p = outcome program words (concluded_code 0 ++ rest) (begins program words value a pc w)} refl (concluded 0 w.heap rest)

  -- no address is linked
  pub without-link : w.fields linked_field ≡ int 0 → (order : Order) (rest : List Step) → Stops 6 (outcome program words (conditional_code order ++ rest) (holding program words value a pc w (array p ∷ []))) (gives (Some (int 0)) (concluded_at 0 w.heap))
  without-link is Big rest =
      stops-after 2 {p = outcome_from program words (linked_code Big ++ (stack Pop ∷ concluded_code 0 ++ rest)) (length (linked_code Big)) (holding program words value a pc w (array p ∷ []))} (simp is refl)
      (stops-past program words 4 (linked_code Big) (stack Pop ∷ concluded_code 0 ++ rest) 0 (length (linked_code Big)) (holding program words value a pc w (array p ∷ [])) (gives (Some (int 0)) (concluded_at 0 w.heap)) (omega arith) (not-stored rest))
  without-link is Little rest =
      stops-after 2 {p = outcome_from program words (linked_code Little ++ (stack Pop ∷ concluded_code 0 ++ rest)) (length (linked_code Little)) (holding program words value a pc w (array p ∷ []))} (simp is refl)
      (stops-past program words 4 (linked_code Little) (stack Pop ∷ concluded_code 0 ++ rest) 0 (length (linked_code Little)) (holding program words value a pc w (array p ∷ [])) (gives (Some (int 0)) (concluded_at 0 w.heap)) (omega arith) (not-stored rest))

  module _ (at : ℕ) (linked : w.fields linked_field ≡ int 1) (link : w.fields link_field ≡ int at) (at_word : IsWord at) (a_word : IsWord a) where
    -- another address is linked
    pub with-other-link : (at ≡ a → ⊥) → (order : Order) (rest : List Step) → Stops 9 (outcome program words (conditional_code order ++ rest) (holding program words value a pc w (array p ∷ []))) (gives (Some (int 0)) (concluded_at 0 w.heap))
    with-other-link ne Big rest =
        stops-after 5 {p = outcome_from program words (store_code Big ++ (stack Pop ∷ concluded_code 0 ++ rest)) (length (store_code Big)) (holding program words value a pc w (array p ∷ []))} (simp (linked, link, same-signed at a at_word a_word, ne_eqb at a ne) refl)
        (stops-past program words 4 (store_code Big) (stack Pop ∷ concluded_code 0 ++ rest) 0 (length (store_code Big)) (holding program words value a pc w (array p ∷ [])) (gives (Some (int 0)) (concluded_at 0 w.heap)) (omega arith) (not-stored rest))
    with-other-link ne Little rest =
        stops-after 5 {p = outcome_from program words (store_code Little ++ (stack Pop ∷ concluded_code 0 ++ rest)) (length (store_code Little)) (holding program words value a pc w (array p ∷ []))} (simp (linked, link, same-signed at a at_word a_word, ne_eqb at a ne) refl)
        (stops-past program words 4 (store_code Little) (stack Pop ∷ concluded_code 0 ++ rest) 0 (length (store_code Little)) (holding program words value a pc w (array p ∷ [])) (gives (Some (int 0)) (concluded_at 0 w.heap)) (omega arith) (not-stored rest))

    -- the address is linked
    module _ (page : IsPage w.heap p) where
      put : (v : ℕ) (rest : List Step) → Stops 4 (outcome program words (put_word ++ concluded_code 1 ++ rest) (holding program words value a pc w (int v ∷ int (a / 4 % 1024) ∷ array p ∷ []))) (gives (Some (int 1)) (concluded_at 1 (with_int w.heap p (a / 4 % 1024) v)))
      put v rest =
          stops-after 1 (word-put program words value a p w page (locals program words value a pc p w page) v (concluded_code 1 ++ rest)) (concluded 1 (with_int w.heap p (a / 4 % 1024) v) rest)

      stored : (order : Order) (rest : List Step) → Stops 28 (outcome program words (store_code order ++ rest) (holding program words value a pc w (array p ∷ []))) (gives (Some (int 1)) (concluded_at 1 (with_int w.heap p (a / 4 % 1024) (computed_word order value))))
      stored Big rest =
          stops-within {most = 10} (lit≤ tt)
          (stops-after 5 (index-pushed program words value a p w page (locals program words value a pc p w page) refl (array p ∷ []) (load 0 ∷ put_word ++ concluded_code 1 ++ rest))
          (stops-after 1 {p = outcome program words (put_word ++ concluded_code 1 ++ rest) (holding program words value a pc w (int value ∷ int (a / 4 % 1024) ∷ array p ∷ []))} refl (put value rest)))
      stored Little rest =
          stops-after 5 (index-pushed program words value a p w page (locals program words value a pc p w page) refl (array p ∷ []) (reversed_code 0 ++ put_word ++ concluded_code 1 ++ rest))
          (stops-after 19 (value-pushed program words value a pc p w page (int (a / 4 % 1024) ∷ array p ∷ []) (put_word ++ concluded_code 1 ++ rest)) (put (turned_round value) rest))

      pub with-link : at ≡ a → (order : Order) (rest : List Step) → Stops 33 (outcome program words (conditional_code order ++ rest) (holding program words value a pc w (array p ∷ []))) (gives (Some (int 1)) (concluded_at 1 (with_int w.heap p (a / 4 % 1024) (computed_word order value))))
      with-link e Big rest =
          stops-after 5 {p = outcome program words (store_code Big ++ (stack Pop ∷ concluded_code 0 ++ rest)) (holding program words value a pc w (array p ∷ []))} (simp (linked, link, same-signed at a at_word a_word, eq-eqb at a e) refl) (stored Big (stack Pop ∷ concluded_code 0 ++ rest))
      with-link e Little rest =
          stops-after 5 {p = outcome program words (store_code Little ++ (stack Pop ∷ concluded_code 0 ++ rest)) (holding program words value a pc w (array p ∷ []))} (simp (linked, link, same-signed at a at_word a_word, eq-eqb at a e) refl) (stored Little (stack Pop ∷ concluded_code 0 ++ rest))
