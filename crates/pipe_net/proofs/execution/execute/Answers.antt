use Rattle.std.proofs.Common.{◌≡◌, Some, None, Result, Ok, Err, refl, ap, sym, ◌∙◌, subst, arith}
use Rattle.std.proofs.lemmas.Result.{err_from_is_err_and}
use Rattle.run_definition.specs.declared.io_fault.IoFault.{IoFault}
use Rattle.run_definition.specs.declared.outcome.Outcome.TheVariants.{Waiting}
use Rattle.jvm_definition.specs.Step.{loaded_turn}
use Rattle.jvm_machine.specs.Machine.{state_of}
use Rattle.pipe_net.specs.declared.executed.Executed.{Executed}
use Rattle.pipe_net.specs.Executing.{Executes, Fails, Scene, Walks}
use Rattle.pipe_net.specs.Views.{ports, scene}
use Rattle.pipe_net.proofs.Executions.{fails-so, stops-ended, stops-waiting, turns-of, walks-more}
use Rattle.pipe_net.proofs.execution.execute.Goals as goal

pub loop-count-init : goal.loop-count-init
loop-count-init g c = record {
  going = c.requires.going;
  sound = c.requires.sound;
  walks = refl;
  count = omega arith;
  short = c.requires.short;
  same_inlet = refl;
  same_outlet = refl;
  same_c = refl;
  same_unix = refl;
  same_source = refl;
  same_before = refl;
  same_sink = refl;
  same_behind = refl;
  same_errors = refl;
}

pub loop-count-preserved : goal.loop-count-preserved
loop-count-preserved g c =
    let invariant = c.loop-count.invariant in
    let ensures = c.in_ok-advance.ensures in
    let turn = rw c.in-None.is at ensures.turn in
    let old = c.loop-count.jvm in
    let new = c.advance.new.self in
    let before = c.loop-count.server in
    let after = c.advance.new.server in
    record {
      going = ensures.going (ap Ok c.in-None.is);
      sound = ensures.usable_stays;
      walks = walks-more c.loop-count.count (scene c.args.jvm.now (ports g.S.Source g.O.Sink c.args.server.now)) (scene old (ports g.S.Source g.O.Sink before)) (scene new (ports g.S.Source g.O.Sink after)) invariant.walks
          (turns-of (λ j. ports g.S.Source g.O.Sink j) (λ j. j.failed) (loaded_turn (state_of old)) (state_of old) (state_of new) before after (Ok None) turn);
      count = omega (arith, ensures.count, invariant.count, c.requires.within, c.loop-count-test.true);
      short = ensures.keeps.6 invariant.short;
      same_inlet = ensures.keeps.7 ∙ invariant.same_inlet;
      same_outlet = ensures.keeps.8 ∙ invariant.same_outlet;
      same_c = ensures.keeps.9 ∙ invariant.same_c;
      same_unix = ensures.keeps.0 ∙ invariant.same_unix;
      same_source = ensures.keeps.1 ∙ invariant.same_source;
      same_before = ensures.keeps.2 ∙ invariant.same_before;
      same_sink = ensures.keeps.3 ∙ invariant.same_sink;
      same_behind = ensures.keeps.4 ∙ invariant.same_behind;
      same_errors = ensures.keeps.5 ∙ invariant.same_errors;
    }

pub returns-in_err-advance-clause-executes : goal.returns-in_err-advance-clause-executes
returns-in_err-advance-clause-executes g c =
    let invariant = c.loop-count.invariant in
    let ensures = c.in_err-advance.ensures in
    let p = err_from_is_err_and c.from_residual.result c.from_residual.ensures.1 in
    let x : Scene = scene c.args.jvm.now (ports g.S.Source g.O.Sink c.args.server.now) in
    let y : Scene = scene c.advance.new.self (ports g.S.Source g.O.Sink c.advance.new.server) in
    let fails : Fails (scene c.loop-count.jvm (ports g.S.Source g.O.Sink c.loop-count.server)) y c.in_err-advance.field-0.0 =
    fails-so (λ j. ports g.S.Source g.O.Sink j) (λ j. j.failed) (loaded_turn (state_of c.loop-count.jvm)) (state_of c.loop-count.jvm) (state_of c.advance.new.self) c.loop-count.server c.advance.new.server c.in_err-advance.field-0.0 refl invariant.sound ensures.turn ensures.causes in
    let same : c.from_residual.result ≡ Err c.in_err-advance.field-0.0 = p.1 ∙ ap Err p.2 in
    subst (λ (r : Result Executed IoFault). Executes c.args.most x y r) (sym same)
    (c.loop-count.count, c.loop-count-test.true, scene c.loop-count.jvm (ports g.S.Source g.O.Sink c.loop-count.server), invariant.walks, fails)

pub returns-in-Waiting-clause-executes : goal.returns-in-Waiting-clause-executes
returns-in-Waiting-clause-executes g c =
    let some : c.in_ok-advance.field-0 ≡ Some Waiting = c.in-Some.is ∙ ap Some c.in-Waiting.is in
    let turn = rw some at c.in_ok-advance.ensures.turn in
    let before = c.loop-count.server in
    let after = c.advance.new.server in
    stops-waiting c.args.most c.loop-count.count (scene c.args.jvm.now (ports g.S.Source g.O.Sink c.args.server.now)) (scene c.loop-count.jvm (ports g.S.Source g.O.Sink before)) (scene c.advance.new.self (ports g.S.Source g.O.Sink after)) (scene c.retry.new.self (ports g.S.Source g.O.Sink after))
    c.loop-count-test.true c.loop-count.invariant.walks
    (turns-of (λ j. ports g.S.Source g.O.Sink j) (λ j. j.failed) (loaded_turn (state_of c.loop-count.jvm)) (state_of c.loop-count.jvm) (state_of c.advance.new.self) before after (Ok (Some Waiting)) turn) c.retry.ensures.state refl

pub returns-in_default-clause-executes : goal.returns-in_default-clause-executes
returns-in_default-clause-executes g c =
    let turn = rw c.in-Some.is at c.in_ok-advance.ensures.turn in
    let before = c.loop-count.server in
    let after = c.advance.new.server in
    stops-ended c.args.most c.loop-count.count (scene c.args.jvm.now (ports g.S.Source g.O.Sink c.args.server.now)) (scene c.loop-count.jvm (ports g.S.Source g.O.Sink before)) (scene c.advance.new.self (ports g.S.Source g.O.Sink after)) c.in-Some.outcome c.loop-count-test.true c.loop-count.invariant.walks
    (turns-of (λ j. ports g.S.Source g.O.Sink j) (λ j. j.failed) (loaded_turn (state_of c.loop-count.jvm)) (state_of c.loop-count.jvm) (state_of c.advance.new.self) before after (Ok (Some c.in-Some.outcome)) turn) c.in_default.not-Waiting

pub returns-clause-executes : goal.returns-clause-executes
returns-clause-executes g c =
    let all : c.loop-count.count ≡ c.args.most = omega arith in
    (refl, subst (λ k. Walks k (scene c.args.jvm.now (ports g.S.Source g.O.Sink c.args.server.now)) (scene c.loop-count.jvm (ports g.S.Source g.O.Sink c.loop-count.server))) all c.loop-count.invariant.walks)
