use Rattle.std.proofs.Common.{refl}
use Rattle.nv_outside.specs.Seen.{input_seen, output_seen}
use Rattle.unix_calls.specs.Serving.{parts}
use Rattle.unix_calls.proofs.JoinedRuns.{run-breaks, run-plays}
use Rattle.unix_calls.proofs.playing.run_joined.Goals as goal

pub returns-clause-plays : goal.returns-clause-plays
returns-clause-plays g c =
    let M = g.M.Machine in
    run-plays (λ j. parts j.unix.now (input_seen g.S.Source j.source.now) (output_seen g.O.Sink j.out.now) (output_seen g.E.Sink j.err.now)) (λ j. j.failed)
    M.turn c.args.steps (M.state c.args.machine.now) (M.state c.run-result.new.machine) c.args.joined.now c.run-result.new.server c.run-result.result
    (c.run-result.ensures.ready refl) c.run-result.ensures.runs c.is_short_ahead.ensures

pub returns-clause-breaks : goal.returns-clause-breaks
returns-clause-breaks g c =
    let M = g.M.Machine in
    run-breaks (λ j. parts j.unix.now (input_seen g.S.Source j.source.now) (output_seen g.O.Sink j.out.now) (output_seen g.E.Sink j.err.now)) (λ j. j.failed)
    M.turn c.args.steps (M.state c.args.machine.now) (M.state c.run-result.new.machine) c.args.joined.now c.run-result.new.server c.run-result.result
    c.requires.sound c.run-result.ensures.causes c.run-result.ensures.runs c.is_short_ahead.ensures
