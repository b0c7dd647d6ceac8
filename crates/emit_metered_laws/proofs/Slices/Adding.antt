-- Slices one after the other.
use Rattle.std.proofs.Common.{◌≡◌, ◌≢◌, ℕ, ◌+◌, ◌-◌, ◌*◌, ◌^◌, ◌<◌, ◌≤◌, ◌==◌, if◌then◌else◌, true, false, List, [], ◌∷◌, ◌++◌, Option, refl, ap, sym, subst, ◌∙◌, arith}
use Rattle.std.specs.Prelude.{sum}
use Rattle.std.proofs.lemmas.Bool.{ne_eqb}
use Rattle.std.proofs.lemmas.List.Sums.{sum_by-cons}
use Rattle.run_definition.specs.declared.order.Order.{Order}
use Rattle.run_definition.specs.Question.{Question}
use Rattle.run_definition.specs.Answer.{Answer}
use Rattle.run_definition.specs.declared.fault.Fault.{Fault}
use Rattle.run_definition.specs.declared.outcome.Outcome.{Outcome}
use Rattle.run_definition.specs.declared.outcome.Outcome.TheVariants.{Exited, Faulted, Trapped, Waiting, Going}
use Rattle.run_definition.specs.Run.{Run, run_of}
use Rattle.nv_events.specs.Parts.{after, is_going, then_run}
use Rattle.nv_events.proofs.RunLaws.{run_of-add, run_of-ended}
use Rattle.run_simulation_laws.specs.Meter.{IsMetered}
use Rattle.mips_definition.specs.State as guest
use Rattle.mips_definition.specs.Step as guest_step
use Rattle.mips_decode.proofs.FaultKinds.{run-faults}
use Rattle.jvm_definition.specs.Program.{Program}
use Rattle.jvm_definition.specs.Step.{JvmState, jvm_turn}
use Rattle.meter.specs.Guards.{left_field, spent_kind}
use Rattle.meter_laws.specs.Meters.{spent_fault}
use Rattle.emit_program_laws.specs.Entered.{entered_over}
use Rattle.emit_program_laws.specs.TrampolineLaws.Classes.{CodeClass}
use Rattle.emit_program_laws.specs.TrampolineLaws.Programs.{IsTranslated}
use Rattle.emit_metered_laws.specs.Metering.{spent}
use Rattle.emit_metered_laws.specs.Slices.{IsSlice, SlicesAddUp, SpentMetersGoOn, entered_again, refilled, sliced, then_slices, with_more}

-- ---- how runs end

module _ {K : Type 0} (reply : K → Question → Option (Answer × K)) where
  -- no run of the guest ends in the fault of a spent meter
  none-is-spent : (n : ℕ) (t : guest.State) (k : K) (f : Fault) → (run_of guest_step.turn reply n t k).outcome ≡ Faulted f → (f.kind == spent_kind) ≡ false
  none-is-spent n t k f is =
      let own = run-faults reply n t k f is in
      ne_eqb f.kind spent_kind (λ same. let most = own.1 in omega (arith, same, most))

  -- questions before both
  after-both : (qs rs : List Question) (r : Run guest.State K) (s : Run JvmState K) → rs ≡ qs → IsMetered spent r s → IsMetered spent (after qs r) (after rs s)
  after-both qs rs r s e h = record {
    questions = ap (λ q. q ++ s.questions) e ∙ ap (λ q. qs ++ q) h.questions;
    system = h.system;
    goes = h.goes;
    over = h.over;
  }

  then-going : (r : Run guest.State K) (go : guest.State → K → Run guest.State K) → r.outcome ≡ Going → then_run r go ≡ after r.questions (go r.last r.system)
  then-going r go goes = ap (λ o. if is_going o then after r.questions (go r.last r.system) else r) goes

  -- the meter is spent
  slices-follow : (again : Fault → Run JvmState K) (r : Run JvmState K) (pc : ℕ) → r.outcome ≡ Faulted (spent_fault pc) → then_slices again r r.outcome ≡ after r.questions (again (spent_fault pc))
  slices-follow again r pc e = ap (then_slices again r) e

  -- it is not
  none-follows : (again : Fault → Run JvmState K) (r : Run JvmState K) (o : Outcome) → ((f : Fault) → o ≡ Faulted f → (f.kind == spent_kind) ≡ false) → then_slices again r o ≡ r
  none-follows again r (Faulted f) never = ap (λ b. if b then after r.questions (again f) else r) (never f refl)
  none-follows again r (Exited status) never = refl
  none-follows again r (Trapped c) never = refl
  none-follows again r Waiting never = refl
  none-follows again r Going never = refl

-- ---- slices

module _ {K : Type 0} (reply : K → Question → Option (Answer × K)) (one : SpentMetersGoOn reply) (program : Program) (words : ℕ) (order : Order) (choose missing : ℕ) (classes : List CodeClass) (code : ℕ → Option ℕ) (is : IsTranslated true program order choose missing classes code) (m : ℕ) where
  abbrev slice : JvmState → K → Run JvmState K
  slice j k = run_of (jvm_turn program words) reply m j k

  abbrev guest_run : ℕ → guest.State → K → Run guest.State K
  guest_run n t k = run_of guest_step.turn reply n t k

  -- where the first run is a slice
  abbrev AddsUp : List ℕ → Type 0
  AddsUp more = (j : JvmState) (t : guest.State) (left : ℕ) (k : K) → IsSlice reply order code choose left t k (slice j k) → left + sum more < 2 ^ 31 → 1024 * (left + sum more + 2) ≤ m → IsMetered spent (guest_run (left + sum more) t k) (sliced slice choose more j k)

  -- the first slice, and those behind it
  module _ (n : ℕ) (ns : List ℕ) (behind : AddsUp ns) (j : JvmState) (t : guest.State) (left : ℕ) (k : K) (first : IsSlice reply order code choose left t k (slice j k)) (small : left + (n + sum ns) < 2 ^ 31) (room : 1024 * (left + (n + sum ns) + 2) ≤ m) where
    abbrev run : Run JvmState K
    run = slice j k

    abbrev again : Fault → Run JvmState K
    again f = sliced slice choose ns (entered_again choose f.pc (with_more (run.last.fields left_field) n) run.last) run.system

    abbrev own : Run guest.State K
    own = guest_run left t k

    abbrev Sums : Type 0
    Sums = IsMetered spent (guest_run (left + (n + sum ns)) t k) (then_slices again run run.outcome)

    over : own.outcome ≢ Going → Sums
    over stopped =
        let ended = run_of-ended guest_step.turn reply left (left + (n + sum ns)) t k (omega arith) stopped in
        let so = first.metered.over stopped in
        let last = none-follows reply again run run.outcome (λ f e. none-is-spent reply left t k f (sym so ∙ e)) in
        subst (λ r. IsMetered spent (guest_run (left + (n + sum ns)) t k) r) (sym last)
        (subst (λ r. IsMetered spent r run) (sym ended) first.metered)

    goes : own.outcome ≡ Going → Sums
    goes going =
        let l = first.leaves going in
        let pc = l.made.last.pc in
        let more = l.unmade + n in
        let few = l.few in
        let within = l.within in
        let filled = refilled pc more run.last.fields in
        let entered = entered_over choose filled run.last.heap in
        let held = l.holds more (omega (arith, few, within, small)) in
        let next = one program words order choose missing classes code filled run.last.heap l.made.last more m l.made.system is held (omega (arith, few, within, room)) in
        let later = behind entered l.made.last more l.made.system next (omega (arith, few, within, small)) (omega (arith, few, within, room)) in
        let put : with_more (run.last.fields left_field) n ≡ more = ap (λ v. with_more v n) l.left_is in
        let at : again (spent_fault pc) ≡ sliced slice choose ns entered l.made.system = ap (λ x. sliced slice choose ns (entered_again choose pc x run.last) run.system) put ∙ ap (λ y. sliced slice choose ns (entered_again choose pc more run.last) y) l.system in
        let both = after-both reply l.made.questions run.questions (guest_run (more + sum ns) l.made.last l.made.system) (again (spent_fault pc)) l.questions (subst (λ r. IsMetered spent (guest_run (more + sum ns) l.made.last l.made.system) r) (sym at) later) in
        let count : left + (n + sum ns) ≡ (left - l.unmade) + (more + sum ns) = omega (arith, within) in
        let split = ap (λ i. guest_run i t k) count ∙ run_of-add guest_step.turn reply (left - l.unmade) (more + sum ns) t k in
        let made : guest_run (left + (n + sum ns)) t k ≡ after l.made.questions (guest_run (more + sum ns) l.made.last l.made.system) = split ∙ ap (λ r. then_run r (guest_run (more + sum ns))) (sym l.made_is) ∙ then-going reply l.made (guest_run (more + sum ns)) l.goes in
        subst (λ r. IsMetered spent (guest_run (left + (n + sum ns)) t k) r) (sym (slices-follow reply again run pc l.outcome))
        (subst (λ r. IsMetered spent r (after run.questions (again (spent_fault pc)))) (sym made) both)

    by-outcome : (o : Outcome) → own.outcome ≡ o → Sums
    by-outcome Going e = goes e
    by-outcome (Exited status) e = over (λ h. let f : Exited status ≡ Going = sym e ∙ h in cc)
    by-outcome (Faulted g) e = over (λ h. let f : Faulted g ≡ Going = sym e ∙ h in cc)
    by-outcome (Trapped c) e = over (λ h. let f : Trapped c ≡ Going = sym e ∙ h in cc)
    by-outcome Waiting e = over (λ h. let f : Waiting ≡ Going = sym e ∙ h in cc)

  pub adds-up : (more : List ℕ) → AddsUp more
  adds-up [] j t left k first small room =
      let e : left ≡ left + 0 = omega arith in
      subst (λ i. IsMetered spent (guest_run i t k) (slice j k)) e first.metered
  adds-up (n ∷ ns) j t left k first small room =
      let whole : sum (n ∷ ns) ≡ n + sum ns = sum_by-cons (λ x. x) n ns in
      subst (λ s. IsMetered spent (guest_run (left + s) t k) (sliced slice choose (n ∷ ns) j k)) (sym whole)
      (by-outcome n ns (adds-up ns) j t left k first (omega (arith, small, whole)) (omega (arith, room, whole)) (guest_run left t k).outcome refl)

pub slices-add-up : {K : Type 0} (reply : K → Question → Option (Answer × K)) → SpentMetersGoOn reply → SlicesAddUp reply
slices-add-up reply one program words order choose missing classes code fields heap t left m more k is h small room =
    adds-up reply one program words order choose missing classes code is m more (entered_over choose fields heap) t left k
    (one program words order choose missing classes code fields heap t left m k is h (omega (arith, room))) small room
