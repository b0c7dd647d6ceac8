-- What holds of every guard.
use Rattle.std.specs.Prelude.{◌≡◌, ℕ, ◌≤◌, true}
use Rattle.delay_slots.specs.declared.unit.Unit.{Unit}
use Rattle.delay_slots.specs.Places.{Address}
use Rattle.emit_steps.specs.Outcomes.{stays_within}
use Rattle.emit_steps.specs.Widths.{size}
use Rattle.meter.specs.Guards.{guard_code}

-- the bytes that are weighed for the guard of a word
abbrev pub guard_bytes : ℕ
guard_bytes = 128

abbrev pub GuardsAreSmall : Type 0
GuardsAreSmall = (unit : Unit) (at : Address) → size (guard_code unit at) ≤ guard_bytes

-- no branch goes past the end
abbrev pub GuardsStayWithin : Type 0
GuardsStayWithin = (unit : Unit) (at : Address) → stays_within (guard_code unit at) ≡ true
