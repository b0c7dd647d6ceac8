use Rattle.std.proofs.Common.{◌≡◌, ◌+◌, Ok, refl, ap, subst, ◌∙◌, arith}
use Rattle.std.proofs.lemmas.Result.{err_from_is_err_and}
use Rattle.run_definition.specs.declared.outcome.Outcome.TheVariants.{Going, Waiting}
use Rattle.nv_events.proofs.Progress.{falls_by, progress_none, progress_on, progress_end, progress_falls, progress_bound, reaches_none, told_on, told_end, told_bound}
use Rattle.nv_events.specs.Counting.{IsCounted}
use Rattle.nv_events.proofs.CountLaws.{counted_add, counted_one, err_not_ok}
use Rattle.nv_events.proofs.MoveLaws.{progress_moves, told_moves, turns_not_going}
use Rattle.nv_events.proofs.runs.run.Goals as goal

pub loop-made-init : goal.loop-made-init
loop-made-init g c =
    let M = g.M.Machine in
    let V = g.V.Server in
    let s = c.args.server.now in
    let x = M.state c.args.machine.now in
    record {
      bound = omega arith;
      going = c.requires.going;
      usable = c.requires.usable;
      progress = progress_none V.goes M.turn x s;
      told = λ k e. (k, e, reaches_none M.turn V.reply x k);
      faults = refl;
      ready = refl;
      keeps = g.met.V.Server.keeps_itself s;
      fixed = refl;
      counts = refl;
    }

pub loop-made-preserved : goal.loop-made-preserved
loop-made-preserved g c =
    let M = g.M.Machine in
    let V = g.V.Server in
    let before_it = c.loop-made.made in
    let more = c.hurry-made.result in
    let n = c.loop-made.made + c.hurry-made.result in
    let old = M.state c.args.machine.now in
    let from = M.state c.loop-made.machine in
    let now = M.state c.hurry-made.new.self in
    let next = M.state c.advance.new.self in
    let first = c.args.server.now in
    let before = c.loop-made.server in
    let after = c.advance.new.server in
    let invariant = c.loop-made.invariant in
    let ensures = c.in_ok-outcome.ensures in
    let turned = rw c.in_default.is at ensures.turn in
    record {
      bound = omega (arith, invariant.bound, c.hurry-made.ensures.bound, c.if-made-bound.false);
      going = ensures.going (ap Ok c.in_default.is);
      usable = ensures.usable_stays;
      progress = progress_on V.goes V.held V.fell M.turn (M.turn now) n old now next first before after refl turned
          (progress_moves V.goes V.held V.fell M.turn before_it more old from now first before invariant.progress c.hurry-made.ensures.moved);
      told = λ k e.
          let at = invariant.told k e in
          let mid = told_moves V.goes V.held V.fell M.turn V.told V.reply before_it more old from now before k at.0 (λ l told q a went. c.laws.ensures.goes_as_told before before q a l told went) at.1 at.2 c.hurry-made.ensures.moved in
          told_on V.goes V.held V.fell V.told M.turn V.reply (M.turn now) n old now next before after k mid.0 refl turned (λ q a went. c.laws.ensures.goes_as_told before after q a mid.0 mid.1 went) mid.1 mid.2;
      faults = ensures.causes ∙ invariant.faults;
      ready = ensures.ready_stays ∙ invariant.ready;
      keeps = g.met.V.Server.keeps_on first before after invariant.keeps ensures.keeps;
      fixed = ensures.fixed ∙ c.hurry-made.ensures.fixed ∙ invariant.fixed;
      counts = counted_one before_it more (M.count c.args.machine.now) (M.count c.loop-made.machine) (M.count c.hurry-made.new.self) (M.count c.advance.new.self) invariant.counts c.hurry-made.ensures.count ensures.count;
    }

pub returns-then-made-bound-clause-runs : goal.returns-then-made-bound-clause-runs
returns-then-made-bound-clause-runs g c =
    let M = g.M.Machine in
    let V = g.V.Server in
    let n = c.loop-made.made + c.hurry-made.result in
    let old = M.state c.args.machine.now in
    let from = M.state c.loop-made.machine in
    let now = M.state c.hurry-made.new.self in
    let first = c.args.server.now in
    let before = c.loop-made.server in
    progress_bound V.goes V.held V.fell M.turn n c.args.bound old now first before c.if-made-bound.true
    (progress_moves V.goes V.held V.fell M.turn c.loop-made.made c.hurry-made.result old from now first before c.loop-made.invariant.progress c.hurry-made.ensures.moved)

pub returns-then-made-bound-clause-as_told : goal.returns-then-made-bound-clause-as_told
returns-then-made-bound-clause-as_told g c =
    let M = g.M.Machine in
    let V = g.V.Server in
    let n = c.loop-made.made + c.hurry-made.result in
    let old = M.state c.args.machine.now in
    let from = M.state c.loop-made.machine in
    let now = M.state c.hurry-made.new.self in
    let before = c.loop-made.server in
    λ k e.
    let at = c.loop-made.invariant.told k e in
    let mid = told_moves V.goes V.held V.fell M.turn V.told V.reply c.loop-made.made c.hurry-made.result old from now before k at.0 (λ l told q a went. c.laws.ensures.goes_as_told before before q a l told went) at.1 at.2 c.hurry-made.ensures.moved in
    told_bound M.turn V.reply n c.args.bound old now k mid.0 (V.told before) c.if-made-bound.true mid.1 mid.2

pub returns-in_err-outcome-clause-runs : goal.returns-in_err-outcome-clause-runs
returns-in_err-outcome-clause-runs g c =
    let M = g.M.Machine in
    let V = g.V.Server in
    let n = c.loop-made.made + c.hurry-made.result in
    let old = M.state c.args.machine.now in
    let from = M.state c.loop-made.machine in
    let now = M.state c.hurry-made.new.self in
    let next = M.state c.advance.new.self in
    let first = c.args.server.now in
    let before = c.loop-made.server in
    let after = c.advance.new.server in
    let p = err_from_is_err_and c.from_residual.result c.from_residual.ensures.1 in
    let progress = progress_moves V.goes V.held V.fell M.turn c.loop-made.made c.hurry-made.result old from now first before c.loop-made.invariant.progress c.hurry-made.ensures.moved in
    let falls = progress_falls V.goes V.held V.fell M.turn (M.turn now) n c.args.bound old now next first before after c.in_err-outcome.field-0.0 refl c.in_err-outcome.ensures.turn (omega (arith, c.loop-made.invariant.bound, c.hurry-made.ensures.bound, c.if-made-bound.false)) progress in
    falls_by V.goes V.held V.fell M.turn c.args.bound old next first after c.from_residual.result p.0 p.1 falls

pub returns-in_err-outcome-clause-keeps : goal.returns-in_err-outcome-clause-keeps
returns-in_err-outcome-clause-keeps g c =
    g.met.V.Server.keeps_on c.args.server.now c.loop-made.server c.advance.new.server c.loop-made.invariant.keeps c.in_err-outcome.ensures.keeps

pub returns-in-Some-clause-runs : goal.returns-in-Some-clause-runs
returns-in-Some-clause-runs g c =
    let M = g.M.Machine in
    let V = g.V.Server in
    let n = c.loop-made.made + c.hurry-made.result in
    let old = M.state c.args.machine.now in
    let from = M.state c.loop-made.machine in
    let now = M.state c.hurry-made.new.self in
    let first = c.args.server.now in
    let before = c.loop-made.server in
    let turned = rw c.in-Some.is at c.in_ok-outcome.ensures.turn in
    let progress = progress_moves V.goes V.held V.fell M.turn c.loop-made.made c.hurry-made.result old from now first before c.loop-made.invariant.progress c.hurry-made.ensures.moved in
    progress_end V.goes V.held V.fell M.turn (M.turn now) n c.args.bound old now (M.state c.advance.new.self) first before c.advance.new.server c.in-Some.outcome refl turned (omega (arith, c.loop-made.invariant.bound, c.hurry-made.ensures.bound, c.if-made-bound.false)) progress

pub returns-in-Some-clause-as_told : goal.returns-in-Some-clause-as_told
returns-in-Some-clause-as_told g c =
    let M = g.M.Machine in
    let V = g.V.Server in
    let n = c.loop-made.made + c.hurry-made.result in
    let old = M.state c.args.machine.now in
    let from = M.state c.loop-made.machine in
    let now = M.state c.hurry-made.new.self in
    let before = c.loop-made.server in
    let after = c.advance.new.server in
    let turned = rw c.in-Some.is at c.in_ok-outcome.ensures.turn in
    λ k e.
    let at = c.loop-made.invariant.told k e in
    let mid = told_moves V.goes V.held V.fell M.turn V.told V.reply c.loop-made.made c.hurry-made.result old from now before k at.0 (λ l told q a went. c.laws.ensures.goes_as_told before before q a l told went) at.1 at.2 c.hurry-made.ensures.moved in
    told_end V.goes V.held V.fell V.told M.turn V.reply (M.turn now) n c.args.bound old now (M.state c.advance.new.self) before after k mid.0 c.in-Some.outcome refl turned (omega (arith, c.loop-made.invariant.bound, c.hurry-made.ensures.bound, c.if-made-bound.false)) (λ q held. c.laws.ensures.held_as_told before after q mid.0 mid.1 held) mid.1 mid.2

pub returns-in-Some-clause-goes_on : goal.returns-in-Some-clause-goes_on
returns-in-Some-clause-goes_on g c =
    let M = g.M.Machine in
    let V = g.V.Server in
    let now = M.state c.hurry-made.new.self in
    let turned = rw c.in-Some.is at c.in_ok-outcome.ensures.turn in
    λ e.
    let same : c.in-Some.outcome ≡ Going = cc in
    absurd (turns_not_going V.goes V.held V.fell M.turn (M.turn now) now (M.state c.advance.new.self) c.loop-made.server c.advance.new.server c.in-Some.outcome turned same)

pub returns-in-Some-clause-keeps : goal.returns-in-Some-clause-keeps
returns-in-Some-clause-keeps g c =
    g.met.V.Server.keeps_on c.args.server.now c.loop-made.server c.advance.new.server c.loop-made.invariant.keeps c.in_ok-outcome.ensures.keeps

pub returns-clause-runs : goal.returns-clause-runs
returns-clause-runs g c =
    let M = g.M.Machine in
    let V = g.V.Server in
    progress_bound V.goes V.held V.fell M.turn c.loop-made.made c.args.bound (M.state c.args.machine.now) (M.state c.loop-made.machine) c.args.server.now c.loop-made.server (omega (arith, c.loop-made.invariant.bound)) c.loop-made.invariant.progress

pub returns-clause-as_told : goal.returns-clause-as_told
returns-clause-as_told g c =
    let M = g.M.Machine in
    let V = g.V.Server in
    λ k e. let at = c.loop-made.invariant.told k e in told_bound M.turn V.reply c.loop-made.made c.args.bound (M.state c.args.machine.now) (M.state c.loop-made.machine) k at.0 (V.told c.loop-made.server) (omega (arith, c.loop-made.invariant.bound)) at.1 at.2

pub returns-then-made-bound-clause-count_at_bound : goal.returns-then-made-bound-clause-count_at_bound
returns-then-made-bound-clause-count_at_bound g c =
    let M = g.M.Machine in
    λ e.
    subst (λ i. IsCounted i (M.count c.args.machine.now) (M.count c.hurry-made.new.self)) c.if-made-bound.true
    (counted_add c.loop-made.made c.hurry-made.result (M.count c.args.machine.now) (M.count c.loop-made.machine) (M.count c.hurry-made.new.self) c.loop-made.invariant.counts c.hurry-made.ensures.count)

pub returns-then-made-bound-clause-count_at_end : goal.returns-then-made-bound-clause-count_at_end
returns-then-made-bound-clause-count_at_end g c = λ h. absurd (h refl)

pub returns-clause-count_at_bound : goal.returns-clause-count_at_bound
returns-clause-count_at_bound g c =
    let M = g.M.Machine in
    let same : c.loop-made.made ≡ c.args.bound = omega (arith, c.loop-made.invariant.bound) in
    λ e.
    subst (λ i. IsCounted i (M.count c.args.machine.now) (M.count c.loop-made.machine)) same c.loop-made.invariant.counts

pub returns-clause-count_at_end : goal.returns-clause-count_at_end
returns-clause-count_at_end g c = λ h. absurd (h refl)

pub returns-in-Some-clause-count_at_bound : goal.returns-in-Some-clause-count_at_bound
returns-in-Some-clause-count_at_bound g c =
    let M = g.M.Machine in
    let V = g.V.Server in
    let now = M.state c.hurry-made.new.self in
    let turned = rw c.in-Some.is at c.in_ok-outcome.ensures.turn in
    λ e.
    let same : c.in-Some.outcome ≡ Going = cc in
    absurd (turns_not_going V.goes V.held V.fell M.turn (M.turn now) now (M.state c.advance.new.self) c.loop-made.server c.advance.new.server c.in-Some.outcome turned same)

pub returns-in-Some-clause-count_at_end : goal.returns-in-Some-clause-count_at_end
returns-in-Some-clause-count_at_end g c =
    let M = g.M.Machine in
    let V = g.V.Server in
    let n = c.loop-made.made + c.hurry-made.result in
    let old = M.state c.args.machine.now in
    let from = M.state c.loop-made.machine in
    let now = M.state c.hurry-made.new.self in
    let first = c.args.server.now in
    let before = c.loop-made.server in
    let ensures = c.in_ok-outcome.ensures in
    let turned = rw c.in-Some.is at ensures.turn in
    let progress = progress_moves V.goes V.held V.fell M.turn c.loop-made.made c.hurry-made.result old from now first before c.loop-made.invariant.progress c.hurry-made.ensures.moved in
    λ h.
    record {
      made = n;
      within = omega (arith, c.loop-made.invariant.bound, c.hurry-made.ensures.bound, c.if-made-bound.false);
      state = now;
      server = before;
      count = M.count c.hurry-made.new.self;
      goes_on = progress_bound V.goes V.held V.fell M.turn n n old now first before refl progress;
      is_counted = counted_add c.loop-made.made c.hurry-made.result (M.count c.args.machine.now) (M.count c.loop-made.machine) (M.count c.hurry-made.new.self) c.loop-made.invariant.counts c.hurry-made.ensures.count;
      last = progress_end V.goes V.held V.fell M.turn (M.turn now) 0 1 now now (M.state c.advance.new.self) before before c.advance.new.server c.in-Some.outcome refl turned (omega arith) (progress_none V.goes M.turn now before);
      last_counted = ensures.count;
      waits = λ e. ensures.waits cc;
    }

pub returns-in_err-outcome-clause-count_at_bound : goal.returns-in_err-outcome-clause-count_at_bound
returns-in_err-outcome-clause-count_at_bound g c =
    let p = err_from_is_err_and c.from_residual.result c.from_residual.ensures.1 in
    λ e. absurd (err_not_ok c.from_residual.result p.0 Going p.1 e)

pub returns-in_err-outcome-clause-count_at_end : goal.returns-in_err-outcome-clause-count_at_end
returns-in_err-outcome-clause-count_at_end g c =
    let M = g.M.Machine in
    let V = g.V.Server in
    let n = c.loop-made.made + c.hurry-made.result in
    let old = M.state c.args.machine.now in
    let from = M.state c.loop-made.machine in
    let now = M.state c.hurry-made.new.self in
    let next = M.state c.advance.new.self in
    let first = c.args.server.now in
    let before = c.loop-made.server in
    let after = c.advance.new.server in
    let ensures = c.in_err-outcome.ensures in
    let p = err_from_is_err_and c.from_residual.result c.from_residual.ensures.1 in
    let progress = progress_moves V.goes V.held V.fell M.turn c.loop-made.made c.hurry-made.result old from now first before c.loop-made.invariant.progress c.hurry-made.ensures.moved in
    λ h.
    record {
      made = n;
      within = omega (arith, c.loop-made.invariant.bound, c.hurry-made.ensures.bound, c.if-made-bound.false);
      state = now;
      server = before;
      count = M.count c.hurry-made.new.self;
      goes_on = progress_bound V.goes V.held V.fell M.turn n n old now first before refl progress;
      is_counted = counted_add c.loop-made.made c.hurry-made.result (M.count c.args.machine.now) (M.count c.loop-made.machine) (M.count c.hurry-made.new.self) c.loop-made.invariant.counts c.hurry-made.ensures.count;
      last = falls_by V.goes V.held V.fell M.turn 1 now next before after c.from_residual.result p.0 p.1 (progress_falls V.goes V.held V.fell M.turn (M.turn now) 0 1 now now next before before after c.in_err-outcome.field-0.0 refl ensures.turn (omega arith) (progress_none V.goes M.turn now before));
      last_counted = ensures.count;
      waits = λ e. absurd (err_not_ok c.from_residual.result p.0 Waiting p.1 e);
    }
