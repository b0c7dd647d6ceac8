-- What the helper methods that load come to.
use Rattle.std.specs.Prelude.{◌≡◌, ℕ, Bool, true, false, List, [], ◌∷◌, Some, ◌==◌, if◌then◌else◌, is_none}
use Rattle.run_definition.specs.Words.{IsWord}
use Rattle.run_definition.specs.declared.order.Order.{Order}
use Rattle.run_definition.specs.Memory.{Memory}
use Rattle.jvm_definition.specs.declared.value.Value.{Value}
use Rattle.jvm_definition.specs.declared.value.Value.TheVariants.{Int as int, Array as array}
use Rattle.jvm_definition.specs.Program.{Program}
use Rattle.jvm_definition.specs.Values.{Heap}
use Rattle.jvm_definition.specs.Effect.{Workspace}
use Rattle.mips_definition.specs.Effect.{read_align_fault, read_unmapped_fault}
use Rattle.mips_definition.specs.Loads.{load_aligned, loaded_word}
use Rattle.mips_definition.specs.declared.names.load_name.LoadName.{LoadName}
use Rattle.mips_definition.specs.declared.names.load_name.LoadName.TheVariants.{Lw, Lwl, Lwr}
use Rattle.emit_steps.specs.declared.step.Step.{Step}
use Rattle.emit_layout.specs.FieldNumbers.{readable_field}
use Rattle.emit_instructions.specs.Fields.{link_field, linked_field}
use Rattle.emit_instructions.specs.Helpers.{load_helper, load_linked_helper}
use Rattle.mem_helpers.specs.Loads.{read_fault_number}
use Rattle.mem_helpers.specs.Methods.{helper_code}
use Rattle.emit_simulation_laws.specs.Match.{HoldsMemory}
use Rattle.emit_simulation_laws.specs.Helpers.{HasHelpers}
use Rattle.emit_simulation_laws.specs.Outcomes.{Gives, CallsFault}

-- at most so many instructions before a load's method returns, or calls the method that ends the run, and as many before that ends it
abbrev pub most_of_a_load : ℕ
most_of_a_load = 60

-- code calls that method, which ends in a fault of a kind, with the address as its value
abbrev pub FaultsAt : Program → ℕ → Order → List Step → List Value → Workspace → ℕ → ℕ → ℕ → Type 0
FaultsAt program words order code given caller kind pc a =
    CallsFault program words most_of_a_load (helper_code order) code given caller read_fault_number
    (record { kind = kind; pc = pc; value = a })

-- Code loads for the guest, by whether the address is aligned and whether no byte can be read there: it gives the word, leaves these
-- fields, and leaves the arrays alone.
abbrev pub LoadsAs : Program → ℕ → Order → List Step → List Value → Workspace → ℕ → ℕ → ℕ
    → (ℕ → Value) → Bool → Bool → Type 0
LoadsAs program words order code given caller pc a word left false unmapped =
    FaultsAt program words order code given caller read_align_fault pc a
LoadsAs program words order code given caller pc a word left true true =
    FaultsAt program words order code given caller read_unmapped_fault pc a
LoadsAs program words order code given caller pc a word left true false =
    Gives program words most_of_a_load code given caller (Some (int word))
    (λ fields heap. (fields ≡ left) × (heap ≡ caller.heap))

-- LWL and LWR keep bytes of the register, so what it holds is given too
abbrev pub load_arguments : LoadName → ℕ → ℕ → ℕ → List Value
load_arguments Lwl old a pc = int old ∷ int a ∷ int pc ∷ []
load_arguments Lwr old a pc = int old ∷ int a ∷ int pc ∷ []
load_arguments name old a pc = int a ∷ int pc ∷ []

-- a load of the guest by its method
abbrev pub LoadsByName : Program → ℕ → Order → LoadName → Memory → Workspace → ℕ → ℕ → ℕ → Type 0
LoadsByName program words order name memory caller old a pc =
    LoadsAs program words order (helper_code order (load_helper name))
    (load_arguments name old a pc) caller pc a
    (loaded_word name order memory a old) caller.fields (load_aligned name a) (is_none (memory.byte a))

-- the fields after LL: the address is linked
abbrev pub linked_fields : (ℕ → Value) → ℕ → ℕ → Value
linked_fields fields a =
    let linked_to = λ (f : ℕ). if f == link_field then int a else fields f in
    λ f. if f == linked_field then int 1 else linked_to f

abbrev pub LoadsLinked : Program → ℕ → Order → Memory → Workspace → ℕ → ℕ → Type 0
LoadsLinked program words order memory caller a pc =
    LoadsAs program words order (helper_code order load_linked_helper) (int a ∷ int pc ∷ [])
    caller pc a (loaded_word Lw order memory a 0)
    (linked_fields caller.fields a) (load_aligned Lw a) (is_none (memory.byte a))

-- ---- the laws

-- A load has the helper methods, a word as its address, and the guest's memory in the table of
-- pages that may be read.
pub record MayLoad (program : Program) (order : Order) (readable writable : ℕ) (memory : Memory)
    (caller : Workspace) (a : ℕ) : Type 0 where
  pub helpers : HasHelpers program order
  pub readable_is : caller.fields readable_field ≡ array readable
  pub held : HoldsMemory caller.heap readable writable memory
  pub is_word : IsWord a

-- each load gives by its method what the guest loads, or the run ends in the guest's fault
abbrev pub LoadsAreTheGuests : Type 0
LoadsAreTheGuests =
    (program : Program) (words readable writable old a pc : ℕ) (order : Order) (name : LoadName)
    (memory : Memory) (caller : Workspace)
    → MayLoad program order readable writable memory caller a
    → IsWord old
    → LoadsByName program words order name memory caller old a pc

-- LL by its method does as LW, and the address is linked
abbrev pub LinkedLoadsAreTheGuests : Type 0
LinkedLoadsAreTheGuests =
    (program : Program) (words readable writable a pc : ℕ) (order : Order) (memory : Memory)
    (caller : Workspace)
    → MayLoad program order readable writable memory caller a
    → LoadsLinked program words order memory caller a pc

-- what is loaded from a memory that is held is a word, at any address
abbrev pub LoadsWords : Type 0
LoadsWords =
    (heap : Heap) (readable writable a old : ℕ) (memory : Memory) (order : Order)
    (name : LoadName)
    → HoldsMemory heap readable writable memory
    → IsWord (loaded_word name order memory a old)
