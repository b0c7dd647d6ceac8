-- What the classes of a program with a meter come to from rest, told by whether enough is left on it.
use Rattle.std.specs.Prelude.{◌≡◌, ℕ, ◌+◌, ◌*◌, ◌≤◌, ◌⊎◌, true, false, List, Option, Some}
use Rattle.run_definition.specs.declared.order.Order.{Order}
use Rattle.run_definition.specs.Turn.{ends}
use Rattle.run_simulation_laws.specs.Trail.{advanced}
use Rattle.run_simulation_laws.specs.Turns.{Follows, Pair}
use Rattle.mips_definition.specs.State as guest
use Rattle.mips_definition.specs.Step as guest_step
use Rattle.jvm_definition.specs.Program.{Program}
use Rattle.jvm_definition.specs.Effect.{Workspace}
use Rattle.jvm_definition.specs.Step.{JvmState, jvm_turn}
use Rattle.emit_instructions_laws.specs.Pieces.{HoldsAll}
use Rattle.emit_program_laws.specs.Standing.{HasStateOf}
use Rattle.emit_program_laws.specs.TrampolineLaws.Classes.{CodeClass}
use Rattle.emit_program_laws.specs.TrampolineLaws.Programs.{IsTranslated}
use Rattle.emit_metered_laws.specs.Metering.{HasLeftIn, RestsByMeter, spent}

-- ---- enough is left

-- the guest machine and the classes of a program, of which nothing is counted
abbrev pub uncounted : Program → ℕ → Pair guest.State JvmState ⊥
uncounted program words = record {
  guest = guest_step.turn;
  classes = jvm_turn program words;
  tally = λ i. absurd i;
  marked = λ s. false;
}

-- how many turns of the classes so many of the guest's may take
abbrev pub unit_limit : ℕ → ℕ
unit_limit n = 264 * n + 13

-- After at most so many turns that only move they follow turns of the guest, and rest where these are taken off the meter.
pub record Pays (program : Program) (words : ℕ) (Rests : ℕ → guest.State → JvmState → Type 0)
    (most left : ℕ) (t : guest.State) (y : JvmState) : Type 0 where
  pub first : ℕ
  pub first_few : first ≤ most
  pub there : JvmState
  pub comes : advanced (jvm_turn program words) first y ≡ Some there
  pub remain : ℕ
  pub follows : Follows (uncounted program words) (Rests remain) unit_limit t there
  pub taken_off : follows.guest_turns + 1 + remain ≡ left

-- ---- too few are

-- Fields and arrays hold the guest's state, whatever else is there, and so many turns are left.
pub record HoldsLeft (left : ℕ) (t : guest.State) (y : JvmState) : Type 0 where
  pub held : (w : Workspace) → HasStateOf w y → HoldsAll w t
  pub left_is : HasLeftIn left y

-- Within so many turns they end as a spent meter does, and hold the guest's state until then. If the guest makes the turns that are left,
-- it stands at the same unit.
pub record Spends (program : Program) (words most left : ℕ) (t : guest.State) (y : JvmState)
    : Type 0 where
  pub turns : ℕ
  pub in_time : turns + 1 ≤ most
  pub before : JvmState
  pub comes : advanced (jvm_turn program words) turns y ≡ Some before
  pub ends_so : jvm_turn program words before ≡ ends (spent t)
  pub holds : HoldsLeft left t before
  pub few : left ≤ 1
  pub guest_at : guest.State
  pub guest_comes : advanced guest_step.turn left t ≡ Some guest_at
  pub same_unit : spent guest_at ≡ spent t
  pub no_sooner : left ≤ turns

-- ---- from each state of rest

-- the one or the other, after at most so many turns
abbrev pub PaysOrSpends : Program → ℕ → (ℕ → guest.State → JvmState → Type 0) → (most : ℕ)
    → (left : ℕ) → guest.State → JvmState → Type 0
PaysOrSpends program words Rests most left t y =
    Pays program words Rests most left t y ⊎ Spends program words most left t y

abbrev pub MetersArePaidOrSpent : Type 0
MetersArePaidOrSpent =
    (program : Program) (words : ℕ) (order : Order) (choose missing : ℕ)
    (classes : List CodeClass) (code : ℕ → Option ℕ) (left : ℕ) (t : guest.State) (y : JvmState)
    → IsTranslated true program order choose missing classes code
    → RestsByMeter program words order choose classes code left t y
    → PaysOrSpends program words (RestsByMeter program words order choose classes code) 200 left
    t y
