-- The method that stores a word.
use Rattle.std.proofs.Common.{◌≡◌, ℕ, ◌%◌, ◌==◌, true, ◌∷◌, ◌++◌, None, lit≤}
use Rattle.std.proofs.lemmas.Bool.{eqb-true}
use Rattle.run_definition.specs.Words.{IsWord}
use Rattle.run_definition.specs.declared.order.Order.{Order}
use Rattle.run_definition.specs.Memory.{Memory}
use Rattle.mips_definition.specs.Loads.{memory_stored}
use Rattle.mips_definition.specs.Memory.{word_of_lanes}
use Rattle.mips_definition.specs.declared.names.store_name.StoreName.TheVariants.{Sw}
use Rattle.jvm_definition.specs.declared.stack_name.StackName.TheVariants.{Pop}
use Rattle.jvm_definition.specs.Program.{Program}
use Rattle.jvm_definition.specs.Effect.{Workspace}
use Rattle.emit_instructions.specs.Helpers.{store_helper}
use Rattle.mem_helpers.specs.Parts.{stack}
use Rattle.mem_helpers.specs.Stores.{write_fault_code, returns_nothing}
use Rattle.mem_helpers.specs.Methods.{helper_code}
use Rattle.emit_simulation_laws.specs.Outcomes.{Gives}
use Rattle.mem_helpers_laws.specs.Storing.{HoldsTables, LeavesMemory, given_to_store, store_turns}
use Rattle.mem_helpers_laws.proofs.StoreLaws.Stopping.{stops-within}
use Rattle.mem_helpers_laws.proofs.StoreLaws.Done.{place, page, store-done}
use Rattle.mem_helpers_laws.proofs.StoreLaws.Ending.{word-tested, tested-as}
use Rattle.mem_helpers_laws.proofs.StoreLaws.Refusals.{found_code}
use Rattle.mem_helpers_laws.proofs.StoreLaws.Words.{whole-word, IsWord-of_lanes}
use Rattle.mem_helpers_laws.proofs.StoreLaws.WholeWords.{computed_word, computed_word-is, locals, word-stored}

pub sw-done : (program : Program) (words pc value a readable writable : ℕ) (order : Order) (memory : Memory) (w : Workspace) → IsWord value → IsWord a → (tables : HoldsTables w readable writable memory) → (a % 4 == 0) ≡ true → memory.writable a ≡ true → Gives program words store_turns (helper_code order (store_helper Sw)) (given_to_store value a pc) w None (LeavesMemory w readable writable (memory_stored Sw order memory a value))
sw-done program words pc value a readable writable order memory w value_word a_word tables aligned may =
    let p = place program words pc value a readable writable memory w tables may in
    let its_page = page program words pc value a readable writable memory w tables may in
    store-done program words pc value a readable writable memory w tables may 4 3 (found_code order Sw ++ returns_nothing) (write_fault_code 3 ++ returns_nothing) (locals program words value a pc p w its_page) (computed_word order value) (word_of_lanes order value) (memory_stored Sw order memory a value)
    (tested-as program words value a pc w 4 3 (a % 4 == 0) aligned (word-tested program words value a pc w a_word))
    (stops-within (lit≤ tt) (word-stored program words value a pc p w its_page order (stack Pop ∷ write_fault_code 3 ++ returns_nothing)))
    (computed_word-is order value value_word)
    (IsWord-of_lanes order value value_word)
    (whole-word order memory a value (eqb-true (a % 4) 0 aligned))
