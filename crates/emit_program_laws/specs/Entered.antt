-- A translated program that its host enters where a guest stands.
use Rattle.std.specs.Prelude.{◌≡◌, ℕ, ◌*◌, true, false, List, [], ◌∷◌, Option, None}
use Rattle.run_definition.specs.Words.{IsWord}
use Rattle.run_definition.specs.declared.order.Order.{Order}
use Rattle.run_definition.specs.Answer.{Answer, next_answer}
use Rattle.run_simulation_laws.specs.Runs.{SameRuns}
use Rattle.mips_definition.specs.State as guest
use Rattle.mips_definition.specs.Step as guest_step
use Rattle.jvm_definition.specs.declared.value.Value.{Value}
use Rattle.jvm_definition.specs.declared.value.Value.TheVariants.{Int as int}
use Rattle.jvm_definition.specs.Values.{Heap}
use Rattle.jvm_definition.specs.Program.{Program}
use Rattle.jvm_definition.specs.Effect.{Workspace}
use Rattle.jvm_definition.specs.Step.{JvmState, entered_frame, jvm_turn}
use Rattle.emit_layout.specs.FieldNumbers.{pc_field}
use Rattle.emit_simulation_laws.specs.Holding.{HoldsOn}
use Rattle.emit_program_laws.specs.TrampolineLaws.Classes.{CodeClass}
use Rattle.emit_program_laws.specs.TrampolineLaws.Programs.{IsTranslated}

-- a method is entered without arguments, over nothing else
abbrev pub entered_over : ℕ → (ℕ → Value) → Heap → JvmState
entered_over method fields heap = record {
  fields = fields;
  heap = heap;
  frames = entered_frame method [] ∷ [];
}

-- what it begins with
abbrev pub work_over : ℕ → (ℕ → Value) → Heap → Workspace
work_over method fields heap = record {
  locals = (entered_frame method []).locals;
  operands = [];
  fields = fields;
  heap = heap;
}

-- A guest with this order of bytes and this code has begun, and no branch is pending.
pub record IsGuest (order : Order) (code : ℕ → Option ℕ) (t : guest.State) : Type 0 where
  pub begun : t.begun ≡ true
  pub pending : t.pending ≡ None
  pub order_is : t.order ≡ order
  pub code_is : t.code ≡ code

-- Fields and arrays hold a state of a guest with this order of bytes and this code, between two of
-- its instructions.
pub record HoldsGuest (order : Order) (code : ℕ → Option ℕ) (choose : ℕ) (fields : ℕ → Value)
    (heap : Heap) (t : guest.State) : Type 0 where
  -- its first call was answered, and no branch is pending
  pub guest_is : IsGuest order code t
  -- the registers (none is in a local variable, and each is known), HI, LO and the link of LL are in
  -- fields, and the memory is behind the tables
  pub held : HoldsOn 0 (λ r. true) (work_over choose fields heap) t
  -- so is the address at which it stands
  pub pc_is : fields pc_field ≡ int t.pc
  pub pc_word : IsWord t.pc

-- Where the method that chooses among classes is entered then, the classes run as the guest does from
-- there, both ways, with 512 turns for one of the guest's.
abbrev pub EnteredProgramsGoOn : Type 0
EnteredProgramsGoOn =
    (program : Program) (words : ℕ) (order : Order) (choose missing : ℕ)
    (classes : List CodeClass) (code : ℕ → Option ℕ)
    (fields : ℕ → Value) (heap : Heap) (t : guest.State) (answers : List Answer)
    → IsTranslated false program order choose missing classes code
    → HoldsGuest order code choose fields heap t
    → SameRuns guest_step.turn (jvm_turn program words) next_answer (λ n. 512 * n) t
    (entered_over choose fields heap) answers
