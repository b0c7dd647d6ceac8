-- What the helper method that stores where an address is linked comes to.
use Rattle.std.specs.Prelude.{◌≡◌, ◌≢◌, ℕ, ◌==◌, if◌then◌else◌, Some}
use Rattle.run_definition.specs.Words.{IsWord}
use Rattle.run_definition.specs.declared.order.Order.{Order}
use Rattle.run_definition.specs.Memory.{Memory}
use Rattle.mips_definition.specs.Loads.{memory_stored}
use Rattle.mips_definition.specs.declared.names.store_name.StoreName.TheVariants.{Sw}
use Rattle.jvm_definition.specs.declared.value.Value.{Value}
use Rattle.jvm_definition.specs.declared.value.Value.TheVariants.{Int as int}
use Rattle.jvm_definition.specs.Program.{Program}
use Rattle.jvm_definition.specs.Values.{Heap}
use Rattle.jvm_definition.specs.Effect.{Workspace}
use Rattle.emit_instructions.specs.Fields.{link_field, linked_field}
use Rattle.emit_instructions.specs.Helpers.{store_conditional_helper}
use Rattle.mem_helpers.specs.Methods.{helper_code}
use Rattle.emit_simulation_laws.specs.Match.{HoldsMemory}
use Rattle.emit_simulation_laws.specs.Outcomes.{Gives}
use Rattle.mem_helpers_laws.specs.Storing.{MayStore, given_to_store, store_turns}

-- This address is linked.
pub record IsLinked (w : Workspace) (at : ℕ) : Type 0 where
  pub linked : w.fields linked_field ≡ int 1
  pub link_is : w.fields link_field ≡ int at
  pub is_word : IsWord at

-- the fields with no address linked
abbrev pub unlinked : Workspace → ℕ → Value
unlinked w f = if f == linked_field then int 0 else w.fields f

-- no address is linked, and nothing else but the memory is changed
abbrev pub LeavesStored : Workspace → ℕ → ℕ → Memory → (ℕ → Value) → Heap → Type 0
LeavesStored w readable writable memory fields heap =
    (fields ≡ unlinked w) × HoldsMemory heap readable writable memory

-- no address is linked, and nothing else is changed
abbrev pub LeavesUnlinked : Workspace → (ℕ → Value) → Heap → Type 0
LeavesUnlinked w fields heap = (fields ≡ unlinked w) × (heap ≡ w.heap)

-- ---- the law

-- SC, where SW may store. No address is linked afterwards.
pub record ConcludesStore (program : Program) (words pc value a readable writable : ℕ)
    (order : Order) (memory : Memory) (w : Workspace) : Type 0 where
  -- it stores as SW and gives 1 where its address is linked
  pub linked : (at : ℕ) → IsWord value → IsLinked w at → at ≡ a
      → Gives program words store_turns (helper_code order store_conditional_helper)
      (given_to_store value a pc) w (Some (int 1))
      (LeavesStored w readable writable (memory_stored Sw order memory a value))
  -- it gives 0 and stores nothing where another one is
  pub elsewhere : (at : ℕ) → IsLinked w at → at ≢ a
      → Gives program words store_turns (helper_code order store_conditional_helper)
      (given_to_store value a pc) w (Some (int 0)) (LeavesUnlinked w)
  -- and where none is
  pub unlinked : w.fields linked_field ≡ int 0
      → Gives program words store_turns (helper_code order store_conditional_helper)
      (given_to_store value a pc) w (Some (int 0)) (LeavesUnlinked w)

abbrev pub StoresAreConcluded : Type 0
StoresAreConcluded =
    (program : Program) (words pc value a readable writable : ℕ) (order : Order)
    (memory : Memory) (w : Workspace)
    → MayStore Sw order w readable writable memory a
    → ConcludesStore program words pc value a readable writable order memory w
