-- From rest to where the meter is spent.
use Rattle.std.proofs.Common.{◌≡◌, ℕ, zero, suc, ◌+◌, ◌-◌, ◌*◌, ◌≤◌, inl, inr, true, List, [], ◌∷◌, ◌++◌, Option, refl, ap, sym, subst, ◌∙◌, arith}
use Rattle.run_definition.specs.Words.{IsWord}
use Rattle.run_definition.specs.declared.order.Order.{Order}
use Rattle.run_definition.specs.Question.{Question}
use Rattle.run_definition.specs.Answer.{Answer}
use Rattle.run_definition.specs.Turn.{outcome_of, «fault»}
use Rattle.run_definition.specs.Run.{Run, run_of, stops}
use Rattle.run_definition.specs.declared.outcome.Outcome.TheVariants.{Going}
use Rattle.nv_events.specs.Laws.{GivesFitting}
use Rattle.nv_events.specs.Parts.{after}
use Rattle.run_simulation_laws.specs.Trail.{moved, stood}
use Rattle.run_simulation_laws.proofs.Comparing.{run_over}
use Rattle.run_simulation_laws.proofs.Reaching.{finished_join, one_ends, reached_moved}
use Rattle.mips_definition.specs.State as guest
use Rattle.mips_definition.specs.Step as guest_step
use Rattle.jvm_definition.specs.Program.{Program}
use Rattle.jvm_definition.specs.Step.{JvmState, jvm_turn}
use Rattle.meter_laws.specs.Meters.{spent_fault}
use Rattle.emit_program_laws.specs.Entered.{IsGuest}
use Rattle.emit_program_laws.specs.TrampolineLaws.Classes.{CodeClass}
use Rattle.emit_program_laws.specs.TrampolineLaws.Programs.{IsTranslated}
use Rattle.emit_metered_laws.specs.Metering.{RestsByMeter, spent}
use Rattle.emit_metered_laws.specs.Spending.{HoldsLeft, MetersArePaidOrSpent, Pays, PaysOrSpends, Spends, uncounted, unit_limit}
use Rattle.emit_metered_laws.proofs.MeteredPrograms.Spending.{at-unit}
use Rattle.emit_metered_laws.proofs.Slices.Together.{GoesOn, goes-on}

-- A run of the classes has ended as a spent meter does, and holds the state that the guest has come to.
pub record LeavesHeld {K : Type 0} (reply : K → Question → Option (Answer × K)) (order : Order) (code : ℕ → Option ℕ) (left : ℕ) (t : guest.State) (k : K) (run : Run JvmState K) : Type 0 where
  pub unmade : ℕ
  pub few : unmade ≤ 1
  pub within : unmade ≤ left
  pub made : Run guest.State K
  pub made_is : made ≡ run_of guest_step.turn reply (left - unmade) t k
  pub goes : made.outcome ≡ Going
  pub questions : run.questions ≡ made.questions
  pub system : run.system ≡ made.system
  pub outcome : run.outcome ≡ outcome_of («fault» (spent_fault made.last.pc))
  pub guest_is : IsGuest order code made.last
  pub pc_word : IsWord made.last.pc
  pub holds : HoldsLeft unmade made.last run.last

module _ (told : MetersArePaidOrSpent) {K : Type 0} (reply : K → Question → Option (Answer × K)) (fitting : GivesFitting reply) (program : Program) (words : ℕ) (order : Order) (choose missing : ℕ) (classes : List CodeClass) (code : ℕ → Option ℕ) (is_in : IsTranslated true program order choose missing classes code) where
  abbrev Rest : ℕ → guest.State → JvmState → Type 0
  Rest = RestsByMeter program words order choose classes code

  abbrev guest_run : ℕ → guest.State → K → Run guest.State K
  guest_run n t k = run_of guest_step.turn reply n t k

  abbrev class_run : ℕ → JvmState → K → Run JvmState K
  class_run m y k = run_of (jvm_turn program words) reply m y k

  abbrev Leaves : ℕ → guest.State → K → Run JvmState K → Type 0
  Leaves left t k run = LeavesHeld reply order code left t k run

  -- too few turns are left
  spent-leaves : (left : ℕ) (t : guest.State) (y : JvmState) (k : K) (m : ℕ) → Rest left t y → 200 ≤ m → Spends program words 200 left t y → Leaves left t k (class_run m y k)
  spent-leaves left t y k m r room s =
      let step = jvm_turn program words in
      let in_time = s.in_time in
      let whole = finished_join step reply s.turns 1 y s.before k k [] (moved step s.turns y) (stood s.before ∷ []) (stops [] (outcome_of (spent t)) s.before k) (reached_moved step reply s.turns y s.before k s.comes) (one_ends step reply (spent t) s.before k s.ends_so) in
      let run : class_run m y k ≡ stops [] (outcome_of (spent t)) s.before k =
      run_over step reply (s.turns + 1) m y k (stops [] (outcome_of (spent t)) s.before k) (moved step s.turns y ++ stood s.before ∷ []) (omega (arith, in_time, room)) whole in
      let none : left - left ≡ 0 = omega arith in
      subst (λ x. Leaves left t k x) (sym run)
      (record {
        unmade = left;
        few = s.few;
        within = omega arith;
        made = stops [] Going t k;
        made_is = sym (ap (λ n. guest_run n t k) none);
        goes = refl;
        questions = refl;
        system = refl;
        outcome = ap (λ e. outcome_of e) (at-unit t r.rests.guest_is.pending);
        guest_is = r.rests.guest_is;
        pc_word = r.rests.pc_word;
        holds = s.holds;
      })

  -- what is said of a run that goes on from where both rest again
  pub later-leaves : (qs : List Question) (n remain left : ℕ) (t u : guest.State) (k l : K) (run : Run JvmState K) → n + remain ≡ left → ((m : ℕ) → guest_run (n + m) t k ≡ after qs (guest_run m u l)) → Leaves remain u l run → Leaves left t k (after qs run)
  later-leaves qs n remain left t u k l run all runs x =
      let within = x.within in
      let split : left - x.unmade ≡ n + (remain - x.unmade) = omega (arith, all, within) in
      record {
        unmade = x.unmade;
        few = x.few;
        within = omega (arith, all, within);
        made = after qs x.made;
        made_is = ap (λ (r : Run guest.State K). after qs r) x.made_is ∙ sym (runs (remain - x.unmade)) ∙ sym (ap (λ i. guest_run i t k) split);
        goes = x.goes;
        questions = ap (λ rs. qs ++ rs) x.questions;
        system = x.system;
        outcome = x.outcome;
        guest_is = x.guest_is;
        pc_word = x.pc_word;
        holds = x.holds;
      }

  -- from each state of rest, for so many turns of the guest at most
  abbrev LeavesFrom : ℕ → Type 0
  LeavesFrom fuel = (left : ℕ) (t : guest.State) (y : JvmState) (k : K) (m : ℕ) → left ≤ fuel → Rest left t y → (guest_run left t k).outcome ≡ Going → 1024 * (left + 1) ≤ m → Leaves left t k (class_run m y k)

  -- enough is left
  module _ (left : ℕ) (t : guest.State) (y : JvmState) (k : K) (m : ℕ) (going : (guest_run left t k).outcome ≡ Going) (room : 1024 * (left + 1) ≤ m) (p : Pays program words Rest 200 left t y) where
    abbrev own_turns : ℕ
    own_turns = p.follows.guest_turns + 1

    on : GoesOn guest_step.turn (jvm_turn program words) reply (Rest p.remain) own_turns (unit_limit own_turns) t p.there k
    on =
        let all = p.taken_off in
        goes-on (uncounted program words) reply fitting (Rest p.remain) unit_limit t p.there k p.follows left (omega (arith, all)) going

    guest-whole : guest_run left t k ≡ after on.questions (guest_run p.remain on.guest_to on.system)
    guest-whole = sym (ap (λ i. guest_run i t k) p.taken_off) ∙ on.guest_runs p.remain

    -- the turns of the classes that are left for the rest
    abbrev rest_turns : ℕ
    rest_turns = m - p.first - on.used

    classes-whole : class_run m y k ≡ after on.questions (class_run rest_turns on.classes_to on.system)
    classes-whole =
        let few = p.first_few in
        let used = on.in_time in
        let all = p.taken_off in
        let first : m ≡ p.first + (m - p.first) = omega (arith, few, room) in
        let second : m - p.first ≡ on.used + rest_turns = omega (arith, few, room, used, all) in
        ap (λ i. class_run i y k) first
        ∙ (reached_moved (jvm_turn program words) reply p.first y p.there k p.comes).runs (m - p.first)
        ∙ ap (λ i. class_run i p.there k) second
        ∙ on.classes_run rest_turns

    paid-leaves : (fuel : ℕ) → left ≤ suc fuel → LeavesFrom fuel → Leaves left t k (class_run m y k)
    paid-leaves fuel less more =
        let few = p.first_few in
        let used = on.in_time in
        let all = p.taken_off in
        let next : (guest_run p.remain on.guest_to on.system).outcome ≡ Going = sym (ap (λ r. r.outcome) guest-whole) ∙ going in
        subst (λ r. Leaves left t k r) (sym classes-whole)
        (later-leaves on.questions own_turns p.remain left t on.guest_to k on.system (class_run rest_turns on.classes_to on.system) p.taken_off on.guest_runs
        (more p.remain on.guest_to on.classes_to on.system rest_turns (omega (arith, all, less)) on.rests next (omega (arith, few, room, used, all))))

  by-meter : (fuel left : ℕ) (t : guest.State) (y : JvmState) (k : K) (m : ℕ) → left ≤ suc fuel → LeavesFrom fuel → Rest left t y → (guest_run left t k).outcome ≡ Going → 1024 * (left + 1) ≤ m → PaysOrSpends program words Rest 200 left t y → Leaves left t k (class_run m y k)
  by-meter fuel left t y k m less more r going room (inl p) = paid-leaves left t y k m going room p fuel less more
  by-meter fuel left t y k m less more r going room (inr s) = spent-leaves left t y k m r (omega (arith, room)) s

  -- no turn is left: none can be paid
  none-paid : (left : ℕ) (t : guest.State) (y : JvmState) → left ≤ 0 → Pays program words Rest 200 left t y → ⊥
  none-paid left t y less p = let all = p.taken_off in absurd (omega (arith, all, less))

  last-meter : (left : ℕ) (t : guest.State) (y : JvmState) (k : K) (m : ℕ) → left ≤ 0 → Rest left t y → 1024 * (left + 1) ≤ m → PaysOrSpends program words Rest 200 left t y → Leaves left t k (class_run m y k)
  last-meter left t y k m less r room (inl p) = absurd (none-paid left t y less p)
  last-meter left t y k m less r room (inr s) = spent-leaves left t y k m r (omega (arith, room)) s

  pub leaves-from : (fuel : ℕ) → LeavesFrom fuel
  leaves-from zero left t y k m less r going room =
      last-meter left t y k m less r room (told program words order choose missing classes code left t y is_in r)
  leaves-from (suc fuel) left t y k m less r going room =
      by-meter fuel left t y k m less (leaves-from fuel) r going room (told program words order choose missing classes code left t y is_in r)
