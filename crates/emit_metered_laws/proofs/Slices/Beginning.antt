-- The run from the start is a slice, where a turn at least is on the meter.
use Rattle.std.proofs.Common.{◌≡◌, ℕ, zero, suc, ◌+◌, ◌-◌, ◌*◌, ◌≤◌, [], ◌∷◌, Option, Some, None, refl, ap, sym, subst, ◌∙◌, arith}
use Rattle.std.proofs.lemmas.List.{append-nil}
use Rattle.run_definition.specs.Question.{Question}
use Rattle.run_definition.specs.Answer.{Answer}
use Rattle.run_definition.specs.Turn.{moves, asks}
use Rattle.run_definition.specs.Run.{Run, run_of, stops}
use Rattle.run_definition.specs.declared.outcome.Outcome.TheVariants.{Going, Waiting}
use Rattle.nv_events.specs.Laws.{GivesFitting}
use Rattle.nv_events.specs.Parts.{after}
use Rattle.nv_events.proofs.RunLaws.{given, run_of-suc}
use Rattle.run_simulation_laws.specs.Meter.{metered}
use Rattle.run_simulation_laws.specs.Pairs.{by_meter, metered_pair}
use Rattle.run_simulation_laws.specs.Trail.{advanced}
use Rattle.run_simulation_laws.specs.Turns.{Pair}
use Rattle.run_simulation_laws.proofs.Passing.{first_move}
use Rattle.run_simulation_laws.proofs.Paying.{metered-start}
use Rattle.mips_definition.specs.State as guest
use Rattle.mips_definition.specs.Step as guest_step
use Rattle.mips_definition.specs.Step.{after_loader, loader_question}
use Rattle.jvm_definition.specs.Step.{JvmState, jvm_start, jvm_turn}
use Rattle.emit_program_laws.specs.Translated.{TranslatedProgram, guest_start}
use Rattle.emit_metered_laws.specs.Metering.{spent}
use Rattle.emit_metered_laws.specs.Programs.{IsMeteredProgram, MeteredProgram, resting}
use Rattle.emit_metered_laws.specs.Running.{FollowsFromStart, MeteredProgramsFollow, from_start}
use Rattle.emit_metered_laws.specs.Slices.{FirstRunsAreSlices, IsSlice, SlicesAddUpFromStart, SpentMetersGoOn}
use Rattle.emit_metered_laws.specs.Spending.{MetersArePaidOrSpent}
use Rattle.emit_metered_laws.proofs.Slices.Adding.{adds-up}
use Rattle.emit_metered_laws.proofs.Slices.Holding.{leaves-guest}
use Rattle.emit_metered_laws.proofs.Slices.Leaving.{LeavesHeld, later-leaves, leaves-from}
use Rattle.emit_metered_laws.proofs.Slices.Together.{GoesOn, goes-on}

module _ (told : MetersArePaidOrSpent) {K : Type 0} (reply : K → Question → Option (Answer × K)) (fitting : GivesFitting reply) (p : MeteredProgram) (is : IsMeteredProgram p) (most : ℕ) (follows : FollowsFromStart p most) (m : ℕ) (k : K) (room : 1024 * (p.turns + 2) + most ≤ m) where
  abbrev t : TranslatedProgram
  t = p.translated

  abbrev here : guest.State
  here = guest_start t

  abbrev guest_run : ℕ → guest.State → K → Run guest.State K
  guest_run n s l = run_of guest_step.turn reply n s l

  abbrev class_run : ℕ → JvmState → K → Run JvmState K
  class_run n y l = run_of (jvm_turn t.program t.words) reply n y l

  abbrev Leaves : ℕ → guest.State → K → Run JvmState K → Type 0
  Leaves left s l run = LeavesHeld reply t.order t.code left s l run

  abbrev question : Question
  question = loader_question here

  -- ---- the loader's call is the first turn

  module _ (left : ℕ) (turns_are : p.turns ≡ suc left) where
    abbrev machines : Pair (ℕ × guest.State) JvmState ⊥
    machines = metered_pair guest_step.turn (jvm_turn t.program t.words) spent

    abbrev start : ℕ × guest.State
    start = (suc left, here)

    abbrev meter_run : ℕ → ℕ × guest.State → K → Run (ℕ × guest.State) K
    meter_run n s l = run_of (metered guest_step.turn spent) reply n s l

    asks-first : (u : ℕ × guest.State) → asks question (λ a. (left, after_loader here a)) ≡ moves u → ⊥
    asks-first u moving = cc

    -- so no turn that only moves comes before it
    none-first : (n : ℕ) (h : ℕ × guest.State) → advanced (metered guest_step.turn spent) n start ≡ Some h → n ≡ 0
    none-first zero h comes = refl
    none-first (suc n) h comes = let first = first_move (metered guest_step.turn spent) n start h comes in absurd (asks-first first.0 first.1)

    -- the guest's run, by what the system answers
    guest-first : (n : ℕ) → guest_run (suc n) here k ≡ given (reply k question) question (after_loader here) here k (guest_run n)
    guest-first n = run_of-suc guest_step.turn reply n here k

    meter-first : (n : ℕ) → meter_run (suc n) start k ≡ given (reply k question) question (λ a. (left, after_loader here a)) start k (meter_run n)
    meter-first n = run_of-suc (metered guest_step.turn spent) reply n start k

    module _ (a : Answer) (l : K) (got : reply k question ≡ Some (a, l)) (going : (guest_run (suc left) here k).outcome ≡ Going) where
      abbrev begun : guest.State
      begun = after_loader here a

      guest-runs : (n : ℕ) → guest_run (1 + n) here k ≡ after (question ∷ []) (guest_run n begun l)
      guest-runs n =
          let one : 1 + n ≡ suc n = omega arith in
          ap (λ i. guest_run i here k) one ∙ guest-first n
          ∙ ap (λ (x : Option (Answer × K)). given x question (after_loader here) here k (guest_run n)) got

      meter-runs : meter_run 1 start k ≡ after (question ∷ []) (stops [] Going (left, begun) l)
      meter-runs = meter-first 0 ∙ ap (λ (x : Option (Answer × K)). given x question (λ b. (left, after_loader here b)) start k (meter_run 0)) got

      abbrev begins-at : Type 0
      begins-at = GoesOn (metered guest_step.turn spent) (jvm_turn t.program t.words) reply (by_meter (resting p)) (follows.begins.guest_turns + 1) (most + 2 * 1024) (p.turns, here) (jvm_start t.program) k

      at-once : follows.begins.guest_turns ≡ 0
      at-once =
          none-first follows.begins.guest_turns follows.begins.guest_at
          (subst (λ n. advanced (metered guest_step.turn spent) follows.begins.guest_turns (n, here) ≡ Some follows.begins.guest_at) turns_are follows.begins.guest_comes)

      on : begins-at
      on =
          let none = at-once in
          let start_is : meter_run 1 (p.turns, here) k ≡ meter_run 1 start k = ap (λ n. meter_run 1 (n, here) k) turns_are in
          goes-on machines reply fitting (by_meter (resting p)) (λ n. most + 2 * 1024) (p.turns, here) (jvm_start t.program) k follows.begins 1 (omega (arith, none))
          (ap (λ r. r.outcome) (start_is ∙ meter-runs))

      -- where both go on
      same-run : after on.questions (stops [] Going on.guest_to on.system) ≡ after (question ∷ []) (stops [] Going (left, begun) l)
      same-run =
          let none = at-once in
          let one : follows.begins.guest_turns + 1 + 0 ≡ 1 = omega (arith, none) in
          sym (on.guest_runs 0) ∙ ap (λ n. meter_run n (p.turns, here) k) one ∙ ap (λ n. meter_run 1 (n, here) k) turns_are ∙ meter-runs

      questions-are : on.questions ≡ question ∷ []
      questions-are = sym (append-nil on.questions) ∙ ap (λ r. r.questions) same-run

      rests : resting p left begun on.classes_to
      rests = subst (λ s. by_meter (resting p) s on.classes_to) (ap (λ r. r.last) same-run) on.rests

      system-is : on.system ≡ l
      system-is = ap (λ r. r.system) same-run

      classes-whole : class_run m (jvm_start t.program) k ≡ after (question ∷ []) (class_run (m - on.used) on.classes_to l)
      classes-whole =
          let used = on.in_time in
          let split : m ≡ on.used + (m - on.used) = omega (arith, used, room) in
          ap (λ i. class_run i (jvm_start t.program) k) split
          ∙ on.classes_run (m - on.used)
          ∙ ap (λ qs. after qs (class_run (m - on.used) on.classes_to on.system)) questions-are
          ∙ ap (λ s. after (question ∷ []) (class_run (m - on.used) on.classes_to s)) system-is

      begun-leaves : Leaves (suc left) here k (class_run m (jvm_start t.program) k)
      begun-leaves =
          let used = on.in_time in
          let one : 1 + left ≡ suc left = omega arith in
          let next : (guest_run left begun l).outcome ≡ Going = sym (ap (λ r. r.outcome) (guest-runs left)) ∙ ap (λ i. (guest_run i here k).outcome) one ∙ going in
          subst (λ r. Leaves (suc left) here k r) (sym classes-whole)
          (later-leaves told reply fitting t.program t.words t.order t.choose t.missing t.classes t.code is.code_is (question ∷ []) 1 left (suc left) here begun k l (class_run (m - on.used) on.classes_to l) one guest-runs
          (leaves-from told reply fitting t.program t.words t.order t.choose t.missing t.classes t.code is.code_is left left begun on.classes_to l (m - on.used) (omega arith) rests next (omega (arith, used, room, turns_are))))

    -- there is an answer, since the guest goes on
    answered-leaves : (got : Option (Answer × K)) → reply k question ≡ got → (guest_run (suc left) here k).outcome ≡ Going → Leaves (suc left) here k (class_run m (jvm_start t.program) k)
    answered-leaves None is_got going =
        let whole = guest-first left ∙ ap (λ (x : Option (Answer × K)). given x question (after_loader here) here k (guest_run left)) is_got in
        let waits : Waiting ≡ Going = sym (ap (λ r. r.outcome) whole) ∙ going in
        cc
    answered-leaves (Some (a, l)) is_got going = begun-leaves a l is_got going

  -- ---- some turn is on the meter

  start-leaves : (n : ℕ) → p.turns ≡ n → 1 ≤ n → (guest_run n here k).outcome ≡ Going → Leaves n here k (class_run m (jvm_start t.program) k)
  start-leaves zero turns_are some going = absurd (omega (arith, some))
  start-leaves (suc left) turns_are some going = answered-leaves left turns_are (reply k question) refl going

  pub first-slice : 1 ≤ p.turns → IsSlice reply t.order t.code t.choose p.turns here k (class_run m (jvm_start t.program) k)
  first-slice some = record {
    metered = metered-start (from_start p most follows) reply fitting m k room;
    leaves = λ going. leaves-guest reply t.order t.code t.choose p.turns here k (class_run m (jvm_start t.program) k) (start-leaves p.turns refl some going);
  }

pub first-runs-are-slices : MetersArePaidOrSpent → MeteredProgramsFollow → {K : Type 0} (reply : K → Question → Option (Answer × K)) → GivesFitting reply → FirstRunsAreSlices reply
first-runs-are-slices told follow reply fitting p most m k is within some room =
    first-slice told reply fitting p is most (follow p most is within) m k room some

pub slices-add-up-from-start : {K : Type 0} (reply : K → Question → Option (Answer × K)) → SpentMetersGoOn reply → FirstRunsAreSlices reply → SlicesAddUpFromStart reply
slices-add-up-from-start reply one first p most m more k is within some small room =
    let t = p.translated in
    adds-up reply one t.program t.words t.order t.choose t.missing t.classes t.code is.code_is m more (jvm_start t.program) (guest_start t) p.turns k
    (first p most m k is within some (omega (arith, room))) small (omega (arith, room))
