-- How a guest ends whose meter is spent, and where classes with a meter rest.
use Rattle.std.specs.Prelude.{◌≡◌, ℕ, ◌-◌, ◌^◌, ◌<◌, List, Option, Some, None}
use Rattle.run_definition.specs.declared.order.Order.{Order}
use Rattle.run_definition.specs.Turn.{End, «fault»}
use Rattle.mips_definition.specs.State as guest
use Rattle.delay_slots.specs.Places.{Address}
use Rattle.jvm_definition.specs.declared.value.Value.TheVariants.{Int as int}
use Rattle.jvm_definition.specs.Program.{Program}
use Rattle.jvm_definition.specs.Step.{JvmState}
use Rattle.meter.specs.Guards.{left_field}
use Rattle.meter_laws.specs.Meters.{spent_fault}
use Rattle.emit_program_laws.specs.TrampolineLaws.Classes.{CodeClass}
use Rattle.emit_program_laws.specs.Rests.{Rests}

-- ---- the guest

-- where the unit stands to which an address belongs: in a delay slot, that of the branch
abbrev pub unit_address : Option Address → Address → Address
unit_address None pc = pc
unit_address (Some target) pc = pc - 4

-- the end of a guest whose meter is spent there: the fault of a spent meter at the unit
abbrev pub spent : guest.State → End
spent t = «fault» (spent_fault (unit_address t.pending t.pc))

-- ---- the classes

-- so many turns are left in the field of the meter
pub record HasLeftIn (left : ℕ) (y : JvmState) : Type 0 where
  pub field : y.fields left_field ≡ int left
  pub small : left < 2 ^ 31

-- The classes rest between turns of the guest, and so many turns are left.
pub record RestsByMeter (program : Program) (words : ℕ) (order : Order) (choose : ℕ)
    (classes : List CodeClass) (code : ℕ → Option ℕ) (left : ℕ) (t : guest.State) (y : JvmState)
    : Type 0 where
  pub rests : Rests program words order choose classes code t y
  pub left_is : HasLeftIn left y
