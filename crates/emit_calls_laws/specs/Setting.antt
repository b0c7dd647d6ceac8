-- Where a host leaves a run at a call, and sets another state of the guest's.
use Rattle.std.specs.Prelude.{◌≡◌, ℕ, ◌<◌, Option, Some}
use Rattle.run_definition.specs.Words.{IsWord}
use Rattle.run_definition.specs.declared.order.Order.{Order}
use Rattle.mips_definition.specs.State.{State}
use Rattle.jvm_definition.specs.declared.value.Value.{Value}
use Rattle.jvm_definition.specs.declared.value.Value.TheVariants.{Int as int}
use Rattle.jvm_definition.specs.HostMemory.{memory_of}
use Rattle.jvm_definition.specs.Values.{Heap}
use Rattle.emit_layout.specs.FieldNumbers.{hi_field, lo_field, pc_field, readable_field, writable_field}
use Rattle.emit_simulation_laws.specs.Holding.{IsLink}
use Rattle.emit_simulation_laws.specs.Match.{IsPage, host_memory}
use Rattle.emit_program_laws.specs.Entered.{HoldsGuest, IsGuest}
use Rattle.emit_calls_laws.specs.Holding.{HoldsAtCall, HoldsRegisters}

-- Over the fields and arrays of a call a host has set others: the two tables are the same, and their pages are still pages.
pub record KeepsTables {fields : ℕ → Value} {heap : Heap} {t : State}
    (held : HoldsAtCall fields heap t) (set : ℕ → Value) (changed : Heap) : Type 0 where
  pub readable_kept : set readable_field ≡ fields readable_field
  pub writable_kept : set writable_field ≡ fields writable_field
  pub readable_there : changed.array_at held.readable ≡ heap.array_at held.readable
  pub writable_there : changed.array_at held.writable ≡ heap.array_at held.writable
  pub whole : (n p : ℕ) → held.memory_held.readable_pages n ≡ Some p → IsPage changed p

-- The fields hold a state between two instructions, whose memory is what is read through the tables.
pub record SetsState (order : Order) (code : ℕ → Option ℕ) {fields : ℕ → Value} {heap : Heap}
    {t : State} (held : HoldsAtCall fields heap t) (set : ℕ → Value) (changed : Heap) (s : State)
    : Type 0 where
  pub tables : KeepsTables held set changed
  pub guest_is : IsGuest order code s
  pub registers_are : HoldsRegisters set s
  pub register_word : (r : ℕ) → 0 < r → r < 32 → IsWord (s.registers r)
  pub hi_is : set hi_field ≡ int s.hi
  pub hi_word : IsWord s.hi
  pub lo_is : set lo_field ≡ int s.lo
  pub lo_word : IsWord s.lo
  pub link_is : IsLink set s.load_link
  pub memory_is : s.memory ≡ memory_of (host_memory changed held.readable held.writable)
  pub pc_is : set pc_field ≡ int s.pc
  pub pc_word : IsWord s.pc

-- Then the method that chooses can be entered there.
abbrev pub HostsSetStates : Type 0
HostsSetStates =
    (order : Order) (code : ℕ → Option ℕ) (choose : ℕ) (fields : ℕ → Value) (heap : Heap)
    (t : State) (held : HoldsAtCall fields heap t) (set : ℕ → Value) (changed : Heap) (s : State)
    → SetsState order code held set changed s
    → HoldsGuest order code choose set changed s
