-- What fields and arrays hold of a guest's state where the classes call the system.
use Rattle.std.specs.Prelude.{◌≡◌, ℕ, ◌<◌, Bool}
use Rattle.run_definition.specs.Words.{IsWord}
use Rattle.mips_definition.specs.State.{State}
use Rattle.jvm_definition.specs.declared.value.Value.{Value}
use Rattle.jvm_definition.specs.declared.value.Value.TheVariants.{Int as int, Array as array}
use Rattle.jvm_definition.specs.Values.{Heap}
use Rattle.jvm_definition.specs.Effect.{Workspace}
use Rattle.jvm_definition.specs.Step.{JvmState}
use Rattle.emit_layout.specs.FieldNumbers.{register_field, hi_field, lo_field, readable_field, writable_field}
use Rattle.emit_steps.specs.Offsets.{CodeOffset}
use Rattle.meter.specs.Guards.{left_field}
use Rattle.emit_simulation_laws.specs.Match.{HoldsMemory}
use Rattle.emit_simulation_laws.specs.Holding.{HoldsOn, IsLink}
use Rattle.emit_simulation_laws.specs.Sites.{Site, stands}

-- Fields hold HI, LO and the link of LL, and the memory is behind the two tables: all of a state but its registers and where it stands.
pub record HoldsAtCall (fields : ℕ → Value) (heap : Heap) (t : State) : Type 0 where
  pub hi_is : fields hi_field ≡ int t.hi
  pub hi_word : IsWord t.hi
  pub lo_is : fields lo_field ≡ int t.lo
  pub lo_word : IsWord t.lo
  pub link_is : IsLink fields t.load_link
  pub readable : ℕ
  pub readable_is : fields readable_field ≡ array readable
  pub writable : ℕ
  pub writable_is : fields writable_field ≡ array writable
  pub memory_held : HoldsMemory heap readable writable t.memory
  -- its registers, which local variables may have, hold words
  pub register_word : (r : ℕ) → 0 < r → r < 32 → IsWord (t.registers r)

-- Fields hold its registers too.
abbrev pub HoldsRegisters : (ℕ → Value) → State → Type 0
HoldsRegisters fields t = (r : ℕ) → 0 < r → r < 32
    → fields (register_field r) ≡ int (t.registers r)

-- The classes stand at an offset of a site, and hold a state over a bank of which some registers are known.
pub record StandsHolding (site : Site) (bank : ℕ) (known : ℕ → Bool) (t : State) (y : JvmState)
    : Type 0 where
  pub at : CodeOffset
  pub workspace : Workspace
  pub is_there : y ≡ stands site at workspace
  pub held : HoldsOn bank known workspace t

-- With a meter, fields hold the registers too, and so many turns are left on it.
pub record HoldsAtMeteredCall (left : ℕ) (t : State) (y : JvmState) : Type 0 where
  pub held : HoldsAtCall y.fields y.heap t
  pub registers_are : HoldsRegisters y.fields t
  pub left_is : y.fields left_field ≡ int left
