use Rattle.std.proofs.Common.{◌≡◌, ◌-◌, Result, Err, length, refl, ap, sym, ◌∙◌, subst, arith}
use Rattle.std.proofs.lemmas.Result.{err_from_is_err_and}
use Rattle.nv_outside.specs.Seen.{input_seen, output_seen}
use Rattle.pipe_net.specs.declared.net_fault.NetFault.{NetFault}
use Rattle.pipe_net.specs.Histories.{ComesOn, model_of}
use Rattle.pipe_net.specs.Turning.{turns_left}
use Rattle.pipe_net.proofs.Coming.{comes-on, stops-in-order}
use Rattle.pipe_net.proofs.RoundLemmas.{NoneRan, left-few, none-ran-more, some-ran}
use Rattle.pipe_net.proofs.net.Net.go_round.Goals as goal

pub loop-i-init : goal.loop-i-init
loop-i-init g c = record {
  sound = c.requires.sound;
  stages = refl;
  few = omega arith;
  none = λ same p model shows. (shows, λ j h. absurd (omega (arith, h)));
  comes = λ p first first_out fresh came. came;
}

pub loop-i-preserved : goal.loop-i-preserved
loop-i-preserved g c =
    let invariant = c.loop-i.invariant in
    let ensures = c.in_ok-turn.ensures in
    let t = c.in_ok-turn.field-0 in
    let mid = c.loop-i.self in
    let now = c.turn.new.self in
    let source = input_seen g.S.Source c.loop-i.source in
    let source_now = input_seen g.S.Source c.turn.new.source in
    let sink = output_seen g.O.Sink c.loop-i.out in
    let sink_now = output_seen g.O.Sink c.turn.new.out in
    let fewer = left-few t (turns_left mid) (turns_left now) ensures.left in
    record {
      sound = ensures.sound;
      stages = ensures.stages ∙ invariant.stages;
      few = omega (arith, fewer, invariant.few);
      none = λ same.
          let before : turns_left mid ≡ turns_left c.args.self.now = omega (arith, same, fewer, invariant.few) in
          none-ran-more c.args.self.now mid now (input_seen g.S.Source c.args.source.now) source source_now sink sink_now c.loop-i.i c.args.m t (invariant.none before) ensures.gives ensures.left (omega (arith, same, before));
      comes = λ p first first_out fresh came.
          let mid_came = invariant.comes p first first_out fresh came in
          comes-on p first first_out mid source sink mid_came c.loop-i.i c.args.m t now source_now sink_now (ensures.gives p (model_of p mid_came.turns) mid_came.shows) ensures.counts;
    }

pub returns-clause-less : goal.returns-clause-less
returns-clause-less g c =
    let source = input_seen g.S.Source c.args.source.now in
    let source_now = input_seen g.S.Source c.loop-i.source in
    let all : c.loop-i.i ≡ length c.args.self.now.stages.items = omega arith in
    some-ran c.args.self.now c.loop-i.self source source_now c.requires.sound c.requires.going c.loop-i.invariant.few
    (λ same. subst (NoneRan c.args.self.now source c.loop-i.self source_now) all (c.loop-i.invariant.none same))

pub returns-in_err-turn-clause-comes : goal.returns-in_err-turn-clause-comes
returns-in_err-turn-clause-comes g c p first first_out fresh came =
    let invariant = c.loop-i.invariant in
    let ensures = c.in_err-turn.ensures in
    let failed = err_from_is_err_and c.from_residual.result c.from_residual.ensures.1 in
    let fault = c.in_err-turn.field-0.0 in
    let source = input_seen g.S.Source c.loop-i.source in
    let source_now = input_seen g.S.Source c.turn.new.source in
    let sink = output_seen g.O.Sink c.loop-i.out in
    let sink_now = output_seen g.O.Sink c.turn.new.out in
    let mid_came = invariant.comes p first first_out fresh came in
    let same : c.from_residual.result ≡ Err fault = failed.1 ∙ ap Err failed.2 in
    subst (λ (r : Result (Unit {0}) NetFault). ComesOn p c.turn.new.self first source_now first_out sink_now r) (sym same)
    (stops-in-order p first first_out c.loop-i.self source sink mid_came fresh c.loop-i.i c.args.m c.turn.new.self fault source_now sink_now (ensures.gives p (model_of p mid_came.turns) mid_came.shows) (p.count - 1) (let some = c.requires.going.1 in omega (arith, some, came.shows.count_is)))
