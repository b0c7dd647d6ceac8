-- The method of SC.
use Rattle.std.proofs.Common.{◌≡◌, ℕ, ◌/◌, ◌%◌, ◌==◌, true, false, ◌∷◌, ◌++◌, Option, Some, refl, ◌∙◌, sym, lit≤}
use Rattle.std.proofs.lemmas.Bool.{eqb-true}
use Rattle.run_definition.specs.Words.{IsWord}
use Rattle.run_definition.specs.declared.order.Order.{Order}
use Rattle.run_definition.specs.Memory.{Memory}
use Rattle.mips_definition.specs.Effect.{write_refused_fault, write_align_fault}
use Rattle.mips_definition.specs.Loads.{store_aligned, store_allowed, memory_stored}
use Rattle.mips_definition.specs.Memory.{word_of_lanes}
use Rattle.mips_definition.specs.declared.names.store_name.StoreName.TheVariants.{Sw}
use Rattle.jvm_definition.specs.declared.stack_name.StackName.TheVariants.{Pop}
use Rattle.jvm_definition.specs.declared.value.Value.{Value}
use Rattle.jvm_definition.specs.declared.value.Value.TheVariants.{Int as int}
use Rattle.jvm_definition.specs.Program.{Program}
use Rattle.jvm_definition.specs.Values.{Heap, with_int}
use Rattle.jvm_definition.specs.Effect.{Workspace}
use Rattle.emit_instructions.specs.Access.{push_word}
use Rattle.emit_instructions.specs.Fields.{link_field, linked_field}
use Rattle.emit_instructions.specs.Helpers.{store_conditional_helper}
use Rattle.mem_helpers.specs.Loads.{gives}
use Rattle.mem_helpers.specs.Parts.{stack}
use Rattle.mem_helpers.specs.Stores.{write_fault_code}
use Rattle.mem_helpers.specs.Methods.{helper_code}
use Rattle.emit_simulation_laws.specs.Outcomes.{Gives}
use Rattle.emit_simulation_laws.specs.Helpers.{HasHelpers}
use Rattle.mem_helpers_laws.specs.Storing.{HoldsTables, EndsStore, given_to_store, store_turns}
use Rattle.mem_helpers_laws.specs.Linking.{LeavesStored, LeavesUnlinked}
use Rattle.mem_helpers_laws.proofs.StoreLaws.Stopping.{stops-within}
use Rattle.mem_helpers_laws.proofs.StoreLaws.Ending.{Tested, word-tested, tested-as, ends-unaligned, ends-refused}
use Rattle.mem_helpers_laws.proofs.StoreLaws.Places.{same-word}
use Rattle.mem_helpers_laws.proofs.StoreLaws.Allowed.{allowed-is}
use Rattle.mem_helpers_laws.proofs.StoreLaws.Words.{whole-word, IsWord-of_lanes}
use Rattle.mem_helpers_laws.proofs.StoreLaws.WholeWords.{computed_word, computed_word-is}
use Rattle.mem_helpers_laws.proofs.StoreLaws.Done.{place, page, page-done, word-kept_there}
use Rattle.mem_helpers_laws.proofs.StoreLaws.Sc.{conditional_code, concluded_at, without-link, with-other-link, with-link}

module _ (program : Program) (words pc value a : ℕ) (order : Order) (w : Workspace) (a_word : IsWord a) where
  tested : Tested program words value a pc w 4 3 (a % 4 == 0)
  tested = word-tested program words value a pc w a_word

  pub unaligned-conditional : HasHelpers program order → store_aligned Sw a ≡ false → EndsStore program words order store_conditional_helper (given_to_store value a pc) w write_align_fault pc a
  unaligned-conditional helpers test =
      ends-unaligned program words value a pc w order helpers 4 3 (a % 4 == 0) tested (conditional_code order) (push_word 0 ∷ gives) test a_word

  module _ (readable writable : ℕ) (memory : Memory) (tables : HoldsTables w readable writable memory) (aligned : store_aligned Sw a ≡ true) where
    pub refused-conditional : HasHelpers program order → store_allowed Sw order memory a ≡ false → EndsStore program words order store_conditional_helper (given_to_store value a pc) w write_refused_fault pc a
    refused-conditional helpers refused =
        ends-refused program words value a pc w order helpers 4 3 (a % 4 == 0) tested (conditional_code order) (push_word 0 ∷ gives) readable writable memory tables aligned a_word
        (sym (allowed-is Sw order memory a (same-word w.heap readable writable memory tables.held a) aligned) ∙ refused)

    module _ (may : memory.writable a ≡ true) where
      abbrev p : ℕ
      p = place program words pc value a readable writable memory w tables may

      fit : Tested program words value a pc w 4 3 true
      fit = tested-as program words value a pc w 4 3 (a % 4 == 0) aligned tested

      abbrev Comes : Option Value → ((ℕ → Value) → Heap → Type 0) → Type 0
      Comes result Leaves = Gives program words store_turns (helper_code order store_conditional_helper) (given_to_store value a pc) w result Leaves

      pub no-link : w.fields linked_field ≡ int 0 → Comes (Some (int 0)) (LeavesUnlinked w)
      no-link is =
          page-done program words pc value a readable writable memory w tables may 4 3 (conditional_code order) (write_fault_code 3 ++ push_word 0 ∷ gives) (Some (int 0)) (concluded_at program words value a pc p w 0 w.heap) (LeavesUnlinked w) fit
          (stops-within (lit≤ tt) (without-link program words value a pc p w is order (stack Pop ∷ write_fault_code 3 ++ push_word 0 ∷ gives)))
          (refl, refl)

      module _ (at : ℕ) (linked : w.fields linked_field ≡ int 1) (link : w.fields link_field ≡ int at) (at_word : IsWord at) where
        pub other-link : (at ≡ a → ⊥) → Comes (Some (int 0)) (LeavesUnlinked w)
        other-link ne =
            page-done program words pc value a readable writable memory w tables may 4 3 (conditional_code order) (write_fault_code 3 ++ push_word 0 ∷ gives) (Some (int 0)) (concluded_at program words value a pc p w 0 w.heap) (LeavesUnlinked w) fit
            (stops-within (lit≤ tt) (with-other-link program words value a pc p w at linked link at_word a_word ne order (stack Pop ∷ write_fault_code 3 ++ push_word 0 ∷ gives)))
            (refl, refl)

        pub this-link : IsWord value → at ≡ a → Comes (Some (int 1)) (LeavesStored w readable writable (memory_stored Sw order memory a value))
        this-link value_word e =
            page-done program words pc value a readable writable memory w tables may 4 3 (conditional_code order) (write_fault_code 3 ++ push_word 0 ∷ gives) (Some (int 1)) (concluded_at program words value a pc p w 1 (with_int w.heap p (a / 4 % 1024) (computed_word order value))) (LeavesStored w readable writable (memory_stored Sw order memory a value)) fit
            (stops-within (lit≤ tt) (with-link program words value a pc p w at linked link at_word a_word (page program words pc value a readable writable memory w tables may) e order (stack Pop ∷ write_fault_code 3 ++ push_word 0 ∷ gives)))
            (refl, word-kept_there program words pc value a readable writable memory w tables may (computed_word order value) (word_of_lanes order value) (memory_stored Sw order memory a value) (computed_word-is order value value_word) (IsWord-of_lanes order value value_word) (whole-word order memory a value (eqb-true (a % 4) 0 aligned)))
