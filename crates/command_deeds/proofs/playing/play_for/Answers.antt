use Rattle.std.proofs.Common.{refl, subst}
use Rattle.std.proofs.lemmas.Result.{err_from_is_err_and}
use Rattle.command_deeds.proofs.DeedLemmas.{same_shelf}
use Rattle.command_deeds.specs.Deeds.{DoesAll, StopsIn}
use Rattle.command_deeds.specs.World.{input_seen, output_seen, seen, shelf_seen, world}
use Rattle.command_deeds.proofs.PlayLemmas.{run_failed, run_kept, run_not_kept, run_played}
use Rattle.command_deeds.specs.Runs.{kept}
use Rattle.command_deeds.proofs.playing.play_for.Goals as goal

pub returns-in_err-outcome : goal.returns-in_err-outcome
returns-in_err-outcome g c =
    let p = err_from_is_err_and c.from_residual.result c.from_residual.ensures.1 in
    let outside = c.args.outside.now in
    let w = seen g.H.Shelf g.S.Source g.O.Sink g.E.Sink outside in
    let u = world w.shelf (input_seen g.S.Source c.play.new.input) (output_seen g.O.Sink c.play.new.out) (output_seen g.E.Sink c.play.new.err) in
    record {
      same = (refl, refl, refl, refl);
      works =
          rw (p.1, p.2) (run_failed c.args.steps g.M.Machine.turn (g.M.Machine.state c.args.machine) c.args.unix c.play.new.unix w u
          c.in_err-outcome.field-0.0 c.args.keep.now.names c.in_err-outcome.ensures.breaks (same_shelf w.shelf));
    }

pub returns-in_err-keep_files : goal.returns-in_err-keep_files
returns-in_err-keep_files g c =
    let p = err_from_is_err_and c.from_residual-in_err-keep_files.result c.from_residual-in_err-keep_files.ensures.1 in
    let w = seen g.H.Shelf g.S.Source g.O.Sink g.E.Sink c.args.outside.now in
    let u = world w.shelf (input_seen g.S.Source c.play.new.input) (output_seen g.O.Sink c.play.new.out) (output_seen g.E.Sink c.play.new.err) in
    let v = world (shelf_seen g.H.Shelf c.keep_files.new.shelf) u.input u.out u.err in
    let keep = c.args.keep.now.names in
    let outcome = c.in_ok-outcome.outcome in
    let stop = c.in_err-keep_files.field-0.0 in
    let played = run_played c.args.steps g.M.Machine.turn (g.M.Machine.state c.args.machine) (g.M.Machine.state c.play.new.machine)
    c.args.unix c.play.new.unix w u outcome keep c.in_ok-outcome.ensures.plays (same_shelf w.shelf) in
    record {
      same = (refl, refl, refl, refl);
      works =
          rw (p.1, p.2) (run_not_kept c.args.steps g.M.Machine.turn (g.M.Machine.state c.args.machine) c.args.unix c.play.new.unix w u v keep
          outcome stop played
          (subst (λ names. StopsIn (kept c.play.new.unix.files names) u v stop) c.as_slice.ensures
          (c.in_err-keep_files.ensures.keeps u.input u.out u.err)));
    }

pub returns : goal.returns
returns g c =
    let w = seen g.H.Shelf g.S.Source g.O.Sink g.E.Sink c.args.outside.now in
    let u = world w.shelf (input_seen g.S.Source c.play.new.input) (output_seen g.O.Sink c.play.new.out) (output_seen g.E.Sink c.play.new.err) in
    let v = world (shelf_seen g.H.Shelf c.keep_files.new.shelf) u.input u.out u.err in
    let keep = c.args.keep.now.names in
    let outcome = c.in_ok-outcome.outcome in
    let played = run_played c.args.steps g.M.Machine.turn (g.M.Machine.state c.args.machine) (g.M.Machine.state c.play.new.machine)
    c.args.unix c.play.new.unix w u outcome keep c.in_ok-outcome.ensures.plays (same_shelf w.shelf) in
    record {
      same = (refl, refl, refl, refl);
      works =
          run_kept c.args.steps g.M.Machine.turn (g.M.Machine.state c.args.machine) c.args.unix c.play.new.unix w u v keep outcome
          c.answer_of.result played c.answer_of.ensures (subst (λ names. DoesAll (kept c.play.new.unix.files names) u v) c.as_slice.ensures
          (c.in_ok-keep_files.ensures.keeps u.input u.out u.err));
    }
