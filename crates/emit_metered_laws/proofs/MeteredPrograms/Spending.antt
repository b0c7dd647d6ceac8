-- Where a unit's turns are more than are left, the guest with its meter ends at the unit.
use Rattle.std.proofs.Common.{◌≡◌, ◌≢◌, ℕ, zero, suc, ◌+◌, ◌%◌, ◌^◌, ◌<◌, ◌≤◌, Option, Some, None, refl, ap, arith}
use Rattle.run_definition.specs.Turn.{«fault»}
use Rattle.run_simulation_laws.specs.Trail.{advanced, if_moves}
use Rattle.mips_definition.specs.State.{State}
use Rattle.mips_definition.specs.Step.{turn}
use Rattle.delay_slots.specs.Turns.{UnitTurns, one_turn, two_turns, turn_count, AreMade}
use Rattle.meter_laws.specs.Meters.{spent_fault}
use Rattle.emit_instructions_laws.specs.Steps.{GoesThroughSlot}
use Rattle.emit_metered_laws.specs.Metering.{spent, unit_address}

-- the address of the unit of a delay slot
slot-address : (pending : Option ℕ) (pc at : ℕ) → pending ≢ None → pc ≡ (at + 4) % 2 ^ 32 → at + 4 < 2 ^ 32 → unit_address pending pc ≡ at
slot-address None pc at some is low = absurd (some refl)
slot-address (Some target) pc at some is low = omega (arith, is, low)

-- After as many turns as are left it stands there, and ends as a spent meter does at the unit's address.
pub record EndsAtUnit (x : State) (left : ℕ) : Type 0 where
  pub few : left ≤ 1
  pub at : State
  pub comes : advanced turn left x ≡ Some at
  pub ends_so : spent at ≡ «fault» (spent_fault x.pc)

pub at-unit : (x : State) → x.pending ≡ None → spent x ≡ «fault» (spent_fault x.pc)
at-unit x none = ap (λ pending. «fault» (spent_fault (unit_address pending x.pc))) none

pub ends-at-unit : (x : State) (turns : UnitTurns) (left : ℕ) → x.pending ≡ None → x.pc + 4 < 2 ^ 32 → AreMade x turns → GoesThroughSlot x turns → left < turn_count turns → EndsAtUnit x left
ends-at-unit x turns zero none low made slot less = record { few = omega arith; at = x; comes = refl; ends_so = at-unit x none }
ends-at-unit x (one_turn last) (suc left) none low made slot less = absurd (omega (arith, less))
ends-at-unit x (two_turns s last) (suc zero) none low made slot less = record {
  few = omega arith;
  at = s;
  comes = ap (λ t. if_moves t None (advanced turn 0)) made.0;
  ends_so = ap (λ a. «fault» (spent_fault a)) (slot-address s.pending s.pc x.pc slot.pending slot.pc low);
}
ends-at-unit x (two_turns s last) (suc (suc left)) none low made slot less = absurd (omega (arith, less))
