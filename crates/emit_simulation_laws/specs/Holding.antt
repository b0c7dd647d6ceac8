-- When the class machine holds the guest's state, while a bank of registers is in local variables.
use Rattle.std.specs.Prelude.{◌≡◌, ℕ, ◌<◌, ◌==◌, Bool, true, ◌||◌, ◌⊎◌, if◌then◌else◌, List, Option, Some, None}
use Rattle.run_definition.specs.Words.{IsWord}
use Rattle.run_definition.specs.Memory.{Memory}
use Rattle.mips_definition.specs.State.{State}
use Rattle.jvm_definition.specs.declared.value.Value.{Value}
use Rattle.jvm_definition.specs.declared.value.Value.TheVariants.{Int as int, Array as array}
use Rattle.jvm_definition.specs.Values.{Heap}
use Rattle.jvm_definition.specs.Effect.{Workspace, with_operands, with_local, with_field}
use Rattle.emit_layout.specs.FieldNumbers.{register_field, hi_field, lo_field, pc_field, readable_field, writable_field}
use Rattle.emit_instructions.specs.Access.{keeps}
use Rattle.emit_instructions.specs.Fields.{link_field, linked_field}
use Rattle.emit_simulation_laws.specs.Match.{HoldsMemory}

-- what is found where code over a bank looks for a register
abbrev pub reached : ℕ → Workspace → ℕ → Value
reached bank w = λ r. if keeps bank r then w.locals r else w.fields (register_field r)

-- the fields tell the link of LL
abbrev pub IsLink : (ℕ → Value) → Option ℕ → Type 0
IsLink fields None = fields linked_field ≡ int 0
IsLink fields (Some at) = (fields linked_field ≡ int 1) × (fields link_field ≡ int at) × IsWord at

-- What is reached in some registers, the known ones, is what they hold, and the fields and arrays hold the rest of a state, wherever the guest
-- stands.
pub record Holds (known : ℕ → Bool) (reach fields : ℕ → Value) (heap : Heap) (registers : ℕ → ℕ)
    (hi lo : ℕ) (link : Option ℕ) (memory : Memory) : Type 0 where
  pub register_is : (r : ℕ) → 0 < r → r < 32 → known r ≡ true → reach r ≡ int (registers r)
  pub register_word : (r : ℕ) → 0 < r → r < 32 → IsWord (registers r)
  pub hi_is : fields hi_field ≡ int hi
  pub hi_word : IsWord hi
  pub lo_is : fields lo_field ≡ int lo
  pub lo_word : IsWord lo
  pub pc : ℕ
  pub pc_is : fields pc_field ≡ int pc
  pub link_is : IsLink fields link
  pub readable : ℕ
  pub readable_is : fields readable_field ≡ array readable
  pub writable : ℕ
  pub writable_is : fields writable_field ≡ array writable
  pub memory_held : HoldsMemory heap readable writable memory

-- a workspace holds a guest's state over a bank of which some registers are known
abbrev pub HoldsOn : ℕ → (ℕ → Bool) → Workspace → State → Type 0
HoldsOn bank known w s =
    Holds known (reached bank w) w.fields w.heap s.registers s.hi s.lo s.load_link s.memory

-- the workspace with a value in a register, as code over a bank puts it, and these operands
abbrev pub with_value : ℕ → ℕ → Value → Workspace → List Value → Workspace
with_value bank r v w operands =
    if r == 0 then with_operands w operands
    else if keeps bank r then with_local w r v operands
    else with_field w (register_field r) v operands

-- code over a bank has left the fields of the bank's registers alone
abbrev pub KeepsFields : ℕ → Workspace → Workspace → Type 0
KeepsFields bank old new =
    (r : ℕ) → 0 < r → r < 32 → keeps bank r ≡ true
    → new.fields (register_field r) ≡ old.fields (register_field r)

-- and the operands
pub record Keeps (bank : ℕ) (old new : Workspace) : Type 0 where
  pub fields_kept : KeepsFields bank old new
  pub operands_kept : new.operands ≡ old.operands

-- It has left field pc and local variable 0 alone, where the goal of a likely branch is.
pub record KeepsGoal (old new : Workspace) : Type 0 where
  pub pc_kept : new.fields pc_field ≡ old.fields pc_field
  pub goal_kept : new.locals 0 ≡ old.locals 0
