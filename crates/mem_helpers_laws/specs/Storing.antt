-- What the helper methods that store come to.
use Rattle.std.specs.Prelude.{◌≡◌, ℕ, true, false, List, [], ◌∷◌, None}
use Rattle.run_definition.specs.Words.{IsWord}
use Rattle.run_definition.specs.declared.order.Order.{Order}
use Rattle.run_definition.specs.Memory.{Memory}
use Rattle.mips_definition.specs.Effect.{write_refused_fault, write_align_fault}
use Rattle.mips_definition.specs.Loads.{store_aligned, store_allowed, memory_stored}
use Rattle.mips_definition.specs.declared.names.store_name.StoreName.{StoreName}
use Rattle.mips_definition.specs.declared.names.store_name.StoreName.TheVariants.{Sw}
use Rattle.jvm_definition.specs.declared.value.Value.{Value}
use Rattle.jvm_definition.specs.declared.value.Value.TheVariants.{Int as int, Array as array}
use Rattle.jvm_definition.specs.Program.{Program}
use Rattle.jvm_definition.specs.Values.{Heap}
use Rattle.jvm_definition.specs.Effect.{Workspace}
use Rattle.emit_layout.specs.FieldNumbers.{readable_field, writable_field}
use Rattle.emit_instructions.specs.Helpers.{store_helper, store_conditional_helper}
use Rattle.mem_helpers.specs.Stores.{write_fault_number}
use Rattle.mem_helpers.specs.Methods.{helper_code}
use Rattle.emit_simulation_laws.specs.Match.{HoldsMemory}
use Rattle.emit_simulation_laws.specs.Helpers.{HasHelpers}
use Rattle.emit_simulation_laws.specs.Outcomes.{Gives, CallsFault}

-- The tables of pages are in their fields, and what is read through them is the guest's memory.
pub record HoldsTables (w : Workspace) (readable writable : ℕ) (memory : Memory) : Type 0 where
  pub readable_is : w.fields readable_field ≡ array readable
  pub writable_is : w.fields writable_field ≡ array writable
  pub held : HoldsMemory w.heap readable writable memory

-- a word, an address and the instruction's own address
abbrev pub given_to_store : ℕ → ℕ → ℕ → List Value
given_to_store value a pc = int value ∷ int a ∷ int pc ∷ []

-- at most so many instructions before a method that stores returns
abbrev pub store_turns : ℕ
store_turns = 80

-- at most so many before it calls the method that ends the run, and as many before that ends it
abbrev pub store_fault_turns : ℕ
store_fault_turns = 15

-- the method of this number calls the one that ends the run, with a fault of this kind
abbrev pub EndsStore : Program → ℕ → Order → ℕ → List Value → Workspace → ℕ → ℕ → ℕ → Type 0
EndsStore program words order number given w kind pc a =
    CallsFault program words store_fault_turns (helper_code order) (helper_code order number)
    given w write_fault_number
    (record { kind = kind; pc = pc; value = a })

-- nothing but the memory is changed
abbrev pub LeavesMemory : Workspace → ℕ → ℕ → Memory → (ℕ → Value) → Heap → Type 0
LeavesMemory w readable writable memory fields heap =
    (fields ≡ w.fields) × HoldsMemory heap readable writable memory

-- ---- the laws

-- The method of this number ends the run where a store of this kind faults.
pub record EndsFaultyStores (name : StoreName) (number : ℕ) : Type 0 where
  -- its address is not aligned
  pub unaligned : (program : Program) (words pc value a : ℕ) (order : Order) (w : Workspace)
      → HasHelpers program order
      → IsWord a
      → store_aligned name a ≡ false
      → EndsStore program words order number (given_to_store value a pc) w write_align_fault pc a
  -- it is aligned, and a byte there may not be written
  pub refused : (program : Program) (words pc value a readable writable : ℕ) (order : Order)
      (memory : Memory) (w : Workspace)
      → HasHelpers program order
      → IsWord a
      → HoldsTables w readable writable memory
      → store_aligned name a ≡ true
      → store_allowed name order memory a ≡ false
      → EndsStore program words order number (given_to_store value a pc) w write_refused_fault pc a

-- So does the method of each store,
abbrev pub FaultyStoresEnd : Type 0
FaultyStoresEnd = (name : StoreName) → EndsFaultyStores name (store_helper name)

-- and that of SC, which faults as SW.
abbrev pub FaultyConditionalStoresEnd : Type 0
FaultyConditionalStoresEnd = EndsFaultyStores Sw store_conditional_helper

-- The address of a store is a word and aligned, and each byte there may be written.
pub record MayStore (name : StoreName) (order : Order) (w : Workspace) (readable writable : ℕ)
    (memory : Memory) (a : ℕ) : Type 0 where
  pub is_word : IsWord a
  pub held : HoldsTables w readable writable memory
  pub aligned : store_aligned name a ≡ true
  pub allowed : store_allowed name order memory a ≡ true

-- a store that may be done is done: the memory is what the instruction leaves, and no field is
-- changed
abbrev pub StoresAreDone : Type 0
StoresAreDone =
    (program : Program) (words pc value a readable writable : ℕ) (name : StoreName)
    (order : Order) (memory : Memory) (w : Workspace)
    → IsWord value
    → MayStore name order w readable writable memory a
    → Gives program words store_turns (helper_code order (store_helper name))
    (given_to_store value a pc) w None
    (LeavesMemory w readable writable (memory_stored name order memory a value))
