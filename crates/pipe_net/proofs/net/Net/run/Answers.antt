use Rattle.std.proofs.Common.{◌≡◌, Result, Err, refl, ap, sym, ◌∙◌, subst, arith}
use Rattle.std.proofs.lemmas.Result.{err_from_is_err_and}
use Rattle.nv_outside.specs.Seen.{input_seen, output_seen}
use Rattle.pipe_net.specs.declared.net_fault.NetFault.{NetFault}
use Rattle.pipe_net.specs.Histories.{EndsSo}
use Rattle.pipe_net.proofs.Coming.{ends-in-order}
use Rattle.pipe_net.proofs.net.Net.run.Goals as goal

pub loop-self-init : goal.loop-self-init
loop-self-init g c = record {
  sound = c.requires.sound;
  stages = refl;
  comes = λ p first first_out fresh came. came;
}

pub loop-self-preserved : goal.loop-self-preserved
loop-self-preserved g c =
    let invariant = c.loop-self.invariant in
    let ensures = c.in_ok-go_round.ensures in
    record {
      sound = ensures.sound;
      stages = ensures.stages ∙ invariant.stages;
      comes = λ p first first_out fresh came. ensures.comes p first first_out fresh (invariant.comes p first first_out fresh came);
    }

pub returns-clause-ends : goal.returns-clause-ends
returns-clause-ends g c p first first_out fresh came =
    let invariant = c.loop-self.invariant in
    let mid = invariant.comes p first first_out fresh came in
    ends-in-order p first first_out c.loop-self.self (input_seen g.S.Source c.loop-self.source) (output_seen g.O.Sink c.loop-self.out) mid fresh invariant.sound (c.loop-self-test.ensures.all refl) (omega (arith, came.shows.count_is, c.requires.stages))

pub returns-in_err-go_round-clause-ends : goal.returns-in_err-go_round-clause-ends
returns-in_err-go_round-clause-ends g c p first first_out fresh came =
    let failed = err_from_is_err_and c.from_residual.result c.from_residual.ensures.1 in
    let fault = c.in_err-go_round.field-0.0 in
    let same : c.from_residual.result ≡ Err fault = failed.1 ∙ ap Err failed.2 in
    subst (λ (r : Result (Unit {0}) NetFault). EndsSo p c.go_round.new.self first (input_seen g.S.Source c.go_round.new.source) first_out (output_seen g.O.Sink c.go_round.new.out) r) (sym same)
    (c.in_err-go_round.ensures.comes p first first_out fresh (c.loop-self.invariant.comes p first first_out fresh came))
