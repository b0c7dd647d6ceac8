-- Where the host enters them with turns on the meter, the classes run a slice.
use Rattle.std.proofs.Common.{◌≡◌, ◌≢◌, ℕ, ◌+◌, ◌*◌, ◌≤◌, true, List, Option, ap, sym, ◌∙◌, arith}
use Rattle.run_definition.specs.declared.order.Order.{Order}
use Rattle.run_definition.specs.Question.{Question}
use Rattle.run_definition.specs.Answer.{Answer}
use Rattle.run_definition.specs.Run.{Run, run_of}
use Rattle.run_definition.specs.declared.outcome.Outcome.{Outcome}
use Rattle.run_definition.specs.declared.outcome.Outcome.TheVariants.{Going, Trapped}
use Rattle.nv_events.specs.Laws.{GivesFitting}
use Rattle.run_simulation_laws.specs.Meter.{IsMetered, metered}
use Rattle.run_simulation_laws.specs.Pairs.{by_meter, metered_pair}
use Rattle.run_simulation_laws.specs.Runs.{SameRuns}
use Rattle.run_simulation_laws.specs.Turns.{LawOfTurn, Pair}
use Rattle.run_simulation_laws.proofs.Comparing.{compared}
use Rattle.run_simulation_laws.proofs.Metering.{metered_classes}
use Rattle.mips_definition.specs.State as guest
use Rattle.mips_definition.specs.Step as guest_step
use Rattle.jvm_definition.specs.declared.value.Value.{Value}
use Rattle.jvm_definition.specs.Values.{Heap}
use Rattle.jvm_definition.specs.Program.{Program}
use Rattle.jvm_definition.specs.Step.{Frame, JvmState, jvm_turn}
use Rattle.jvm_run_laws.specs.Below.{above}
use Rattle.jvm_run_laws.specs.Laws.{RunsAs}
use Rattle.jvm_run_laws.proofs.FramesBelow.{runs-above, some-nowhere}
use Rattle.meter.specs.Guards.{left_field}
use Rattle.emit_program_laws.specs.Entered.{entered_over}
use Rattle.emit_program_laws.specs.TrampolineLaws.Classes.{CodeClass}
use Rattle.emit_program_laws.specs.TrampolineLaws.Programs.{IsTranslated}
use Rattle.emit_program_laws.proofs.GoingOn.{rests-above}
use Rattle.emit_metered_laws.specs.Metering.{RestsByMeter, spent}
use Rattle.emit_metered_laws.specs.Slices.{HoldsByMeter, IsSlice, SpentMetersGoOn}
use Rattle.emit_metered_laws.specs.Spending.{HoldsLeft, MetersArePaidOrSpent}
use Rattle.emit_metered_laws.proofs.MeteredPrograms.Turning.{metered-turns-followed}
use Rattle.emit_metered_laws.proofs.Slices.Holding.{leaves-guest}
use Rattle.emit_metered_laws.proofs.Slices.Leaving.{LeavesHeld, leaves-from}
use Rattle.emit_metered_laws.proofs.Slices.Untrapped.{metered-untrapped}

trap-is-over : (trap : ℕ) (o : Outcome) → o ≡ Trapped trap → o ≢ Going
trap-is-over trap o e going = cc

module _ (told : MetersArePaidOrSpent) {K : Type 0} (reply : K → Question → Option (Answer × K)) (fitting : GivesFitting reply) (program : Program) (words : ℕ) (order : Order) (choose missing : ℕ) (classes : List CodeClass) (code : ℕ → Option ℕ) (is_in : IsTranslated true program order choose missing classes code) where
  abbrev Rest : ℕ → guest.State → JvmState → Type 0
  Rest = RestsByMeter program words order choose classes code

  abbrev class_run : ℕ → JvmState → K → Run JvmState K
  class_run m y k = run_of (jvm_turn program words) reply m y k

  abbrev machines : Pair (ℕ × guest.State) JvmState ⊥
  machines = metered_pair guest_step.turn (jvm_turn program words) spent

  law : LawOfTurn machines (by_meter Rest) 1024
  law = metered-turns-followed told program words order choose missing classes code is_in

  -- ---- from a state of rest

  same-from-rest : (left : ℕ) (t : guest.State) (y : JvmState) (k : K) → Rest left t y → SameRuns (metered guest_step.turn spent) (jvm_turn program words) reply (λ n. 1024 * n) (left, t) y k
  same-from-rest left t y k r = record {
    forth = λ n. (compared machines reply (by_meter Rest) 1024 law fitting n n (1024 * n) (omega arith) (left, t) y k r).forth (omega arith);
    back = λ m. (compared machines reply (by_meter Rest) 1024 law fitting m m m (omega arith) (left, t) y k r).back (omega arith);
  }

  -- so no run from there ends in a trap
  never-trapped : (left : ℕ) (t : guest.State) (y : JvmState) (k : K) → Rest left t y → (m trap : ℕ) → (class_run m y k).outcome ≢ Trapped trap
  never-trapped left t y k r m trap e =
      let over = ((same-from-rest left t y k r).back m).over (trap-is-over trap (class_run m y k).outcome e) in
      metered-untrapped reply trap left m t k (over.1 ∙ e)

  -- ---- a run that is another one, above a frame

  module _ (below : Frame) (left : ℕ) (t : guest.State) (k : K) (run other : Run JvmState K) (same : RunsAs (above below) run other) where
    metered-without : IsMetered spent (run_of guest_step.turn reply left t k) other → IsMetered spent (run_of guest_step.turn reply left t k) run
    metered-without h = record {
      questions = sym same.questions ∙ h.questions;
      system = sym same.system ∙ h.system;
      goes = λ going. sym same.outcome ∙ h.goes going;
      over = λ stopped. sym same.outcome ∙ h.over stopped;
    }

    fields-without : run.last.fields ≡ other.last.fields
    fields-without = sym (ap (λ (s : JvmState). s.fields) same.last)

    heap-without : run.last.heap ≡ other.last.heap
    heap-without = sym (ap (λ (s : JvmState). s.heap) same.last)

    held-without : (unmade : ℕ) (u : guest.State) → HoldsLeft unmade u other.last → HoldsLeft unmade u run.last
    held-without unmade u h = record {
      held = λ w is. h.held w (sym fields-without ∙ is.0, sym heap-without ∙ is.1);
      left_is = record { field = ap (λ (f : ℕ → Value). f left_field) fields-without ∙ h.left_is.field; small = h.left_is.small };
    }

    leaves-without : LeavesHeld reply order code left t k other → LeavesHeld reply order code left t k run
    leaves-without x = record {
      unmade = x.unmade;
      few = x.few;
      within = x.within;
      made = x.made;
      made_is = x.made_is;
      goes = x.goes;
      questions = sym same.questions ∙ x.questions;
      system = sym same.system ∙ x.system;
      outcome = sym same.outcome ∙ x.outcome;
      guest_is = x.guest_is;
      pc_word = x.pc_word;
      holds = held-without x.unmade x.made.last x.holds;
    }

  -- ---- where the host enters

  pub one-slice : (fields : ℕ → Value) (heap : Heap) (t : guest.State) (left m : ℕ) (k : K) → HoldsByMeter order code choose left fields heap t → 1024 * (left + 2) ≤ m → IsSlice reply order code choose left t k (class_run m (entered_over choose fields heap) k)
  one-slice fields heap t left m k h room =
      let frame = some-nowhere program in
      let entered = entered_over choose fields heap in
      let there = above frame.0 entered in
      let rests : Rest left t there = record {
        rests = rests-above program words order choose classes code frame.0 fields heap t h.holds;
        left_is = record { field = h.left_is; small = h.small };
      } in
      let same = runs-above reply program words m frame.0 entered k frame.1 (never-trapped left t there k rests) in
      let run = class_run m entered k in
      let other = class_run m there k in
      record {
        metered = metered-without frame.0 left t k run other same
            (metered_classes guest_step.turn spent reply (jvm_turn program words) (λ n. 1024 * n) left m t there k (same-from-rest left t there k rests) (omega (arith, room)));
        leaves = λ going. leaves-guest reply order code choose left t k run
            (leaves-without frame.0 left t k run other same
            (leaves-from told reply fitting program words order choose missing classes code is_in left left t there k m (omega arith) rests going (omega (arith, room))));
      }

pub spent-meters-go-on : MetersArePaidOrSpent → {K : Type 0} (reply : K → Question → Option (Answer × K)) → GivesFitting reply → SpentMetersGoOn reply
spent-meters-go-on told reply fitting program words order choose missing classes code fields heap t left m k is_in h room =
    one-slice told reply fitting program words order choose missing classes code is_in fields heap t left m k h room
