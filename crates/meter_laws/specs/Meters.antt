-- A meter in the classes of a program.
use Rattle.std.specs.Prelude.{◌≡◌, ℕ, ◌^◌, ◌<◌, ◌∷◌}
use Rattle.run_definition.specs.Turn.{Turn, ends, «fault»}
use Rattle.run_definition.specs.declared.fault.Fault.{Fault}
use Rattle.delay_slots.specs.Places.{Address}
use Rattle.jvm_definition.specs.declared.value.Value.TheVariants.{Int as int}
use Rattle.jvm_definition.specs.Effect.{Workspace, with_field, with_operands}
use Rattle.jvm_definition.specs.Step.{JvmState}
use Rattle.emit_steps.specs.Offsets.{CodeOffset}
use Rattle.meter.specs.Guards.{left_field, spent_kind}

-- so many turns are left
abbrev pub HasLeft : ℕ → Workspace → Type 0
HasLeft left w = (w.fields left_field ≡ int left) × (left < 2 ^ 31)

-- the workspace where so many are left, and all else is the same
abbrev pub leaving : ℕ → Workspace → Workspace
leaving left w = with_field w left_field (int left) w.operands

-- how a spent meter ends the run, at the address of the unit that it has not enough for
abbrev pub spent_fault : Address → Fault
spent_fault at = record { kind = spent_kind; pc = at; value = 0 }

-- the kind, the pc and the value of that fault on the stack, and all else is the same
abbrev pub with_spent : Workspace → Address → Workspace
with_spent w at = with_operands w (int 0 ∷ int at ∷ int spent_kind ∷ w.operands)

abbrev pub EndsSpent : Address → ℕ → CodeOffset → Turn JvmState → Type 0
EndsSpent at turns place last = last ≡ ends («fault» (spent_fault at))
