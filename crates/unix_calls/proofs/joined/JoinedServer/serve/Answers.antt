use Rattle.run_definition.specs.Question.{asked}
use Rattle.std.proofs.Common.{None, ◌≡◌, subst, sym}
use Rattle.std.specs.Prelude.{OnOk}
use Rattle.nv_events.specs.Serving.{Causes}
use Rattle.unix_calls.specs.Failing.{failed_calls}
use Rattle.nv_outside.specs.Seen.{input_seen, output_seen}
use Rattle.unix_calls.specs.Serving.{parts}
use Rattle.unix_calls.proofs.JoinedLemmas.{joined-causes, joined-none_falls, joined-serves, joined-some, joined-usable}
use Rattle.unix_calls.proofs.joined.JoinedServer.serve.Goals as goal

pub returns-clause-served : goal.returns-clause-served
returns-clause-served g c =
    let j = c.args.self.now in
    joined-serves (λ p. parts p.unix.now (input_seen g.S.Source p.source.now) (output_seen g.O.Sink p.out.now) (output_seen g.E.Sink p.err.now))
    (λ p. p.failed) g.M.View.put_at j
    (record j { unix = record j.unix { now = c.serve-answer.new.self }; source = record j.source { now = c.serve-answer.new.source }; out = record j.out { now = c.serve-answer.new.out }; err = record j.err { now = c.serve-answer.new.err }; failed = c.fault_of-self.result })
    (asked c.args.call.now (g.M.View.memory (g.M.View.content c.args.view.now)))
    (g.M.View.content c.args.view.now) (g.M.View.content c.serve-answer.new.view) c.serve-answer.result c.as_some.result c.as_some.ensures c.fault_of-self.ensures
    c.serve-answer.ensures.served

pub returns-clause-causes : goal.returns-clause-causes
returns-clause-causes g c =
    subst (λ f. Causes (failed_calls c.args.self.now.failed) (failed_calls f) c.as_some.result) (sym c.fault_of-self.ensures)
    (joined-causes c.args.self.now.failed c.serve-answer.result c.as_some.result c.requires.usable c.as_some.ensures)

pub returns-clause-none_falls : goal.returns-clause-none_falls
returns-clause-none_falls g c = joined-none_falls c.args.self.now.failed c.fault_of-self.result c.requires.usable

pub returns-clause-ready : goal.returns-clause-ready
returns-clause-ready g c ready = joined-some c.serve-answer.result c.as_some.result c.as_some.ensures

pub returns-clause-usable_stays : goal.returns-clause-usable_stays
returns-clause-usable_stays g c =
    subst (λ f. OnOk c.as_some.result (f ≡ None)) (sym c.fault_of-self.ensures) (joined-usable c.serve-answer.result c.as_some.result c.as_some.ensures)
