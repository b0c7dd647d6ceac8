-- No run of the guest with a meter ends in a trap.
use Rattle.std.proofs.Common.{◌≡◌, ◌≢◌, ℕ, suc, ◌+◌, Option, refl, ap, sym, ◌∙◌, arith}
use Rattle.run_definition.specs.Question.{Question}
use Rattle.run_definition.specs.Answer.{Answer}
use Rattle.run_definition.specs.Run.{run_of}
use Rattle.run_definition.specs.declared.outcome.Outcome.{Outcome}
use Rattle.run_definition.specs.declared.outcome.Outcome.TheVariants.{Exited, Faulted, Trapped, Waiting, Going}
use Rattle.nv_events.proofs.RunLaws.{run_of-ended}
use Rattle.run_simulation_laws.specs.Meter.{metered}
use Rattle.run_simulation_laws.proofs.Metering.{metered_run}
use Rattle.mips_definition.specs.State as guest
use Rattle.mips_definition.specs.Step as guest_step
use Rattle.mips_decode.proofs.GuestEnds.{guest-untrapped}
use Rattle.meter_laws.specs.Meters.{spent_fault}
use Rattle.emit_metered_laws.specs.Metering.{spent, unit_address}

module _ {K : Type 0} (reply : K → Question → Option (Answer × K)) (trap left n : ℕ) (t : guest.State) (k : K) where
  -- more turns than are on the meter
  abbrev enough : ℕ
  enough = n + suc left

  abbrev by_meter : ℕ → Outcome
  by_meter m = (run_of (metered guest_step.turn spent) reply m (left, t) k).outcome

  -- by how the guest's run of so many turns ends
  by-guest : (o : Outcome) → (run_of guest_step.turn reply left t k).outcome ≡ o → by_meter enough ≢ Trapped trap
  by-guest Going is trapped =
      let last = (run_of guest_step.turn reply left t k).last in
      let goes = (metered_run guest_step.turn spent reply left enough t k (omega arith)).goes is in
      let e : Faulted (spent_fault (unit_address last.pending last.pc)) ≡ Trapped trap = sym goes ∙ trapped in
      cc
  by-guest (Trapped other) is trapped = guest-untrapped reply left other t k is
  by-guest (Exited status) is trapped =
      let over = (metered_run guest_step.turn spent reply left enough t k (omega arith)).over (λ going. let e : Exited status ≡ Going = sym is ∙ going in cc) in
      let e : Exited status ≡ Trapped trap = sym is ∙ sym over ∙ trapped in
      cc
  by-guest (Faulted f) is trapped =
      let over = (metered_run guest_step.turn spent reply left enough t k (omega arith)).over (λ going. let e : Faulted f ≡ Going = sym is ∙ going in cc) in
      let e : Faulted f ≡ Trapped trap = sym is ∙ sym over ∙ trapped in
      cc
  by-guest Waiting is trapped =
      let over = (metered_run guest_step.turn spent reply left enough t k (omega arith)).over (λ going. let e : Waiting ≡ Going = sym is ∙ going in cc) in
      let e : Waiting ≡ Trapped trap = sym is ∙ sym over ∙ trapped in
      cc

  pub metered-untrapped : by_meter n ≢ Trapped trap
  metered-untrapped trapped =
      let longer = run_of-ended (metered guest_step.turn spent) reply n enough (left, t) k (omega arith) (λ going. let e : Trapped trap ≡ Going = sym trapped ∙ going in cc) in
      by-guest (run_of guest_step.turn reply left t k).outcome refl (ap (λ r. r.outcome) longer ∙ trapped)
