use Rattle.std.proofs.Common.{◌≡◌, Err, inr, refl}
use Rattle.std.proofs.lemmas.Result.{err_from_is_err_and}
use Rattle.command_deeds.proofs.DeedLemmas.{gives_ends, gives_then}
use Rattle.command_deeds.proofs.PlayLemmas.{ready_due, unready_due}
use Rattle.command_deeds.specs.Ends.{end_of, ended}
use Rattle.command_deeds.specs.Readying.{IsReady}
use Rattle.command_deeds.specs.Runs.{IsDueOfHeld, IsDueOfPlay, arguments_of, found_for, plan_of}
use Rattle.command_deeds.specs.World.{seen, shelf_seen, world}
use Rattle.command_deeds.proofs.playing.play_session.Goals as goal

pub returns-in_err-unix : goal.returns-in_err-unix
returns-in_err-unix g c =
    let p = err_from_is_err_and c.from_residual.result c.from_residual.ensures.1 in
    let plan = plan_of c.args.launch.now in
    let turn = g.M.Machine.turn in
    let s = g.M.Machine.state c.args.machine in
    let w = seen g.H.Shelf g.S.Source g.O.Sink g.E.Sink c.args.outside.now in
    let v = world (shelf_seen g.H.Shelf c.ready.new.shelf) w.input w.out w.err in
    record {
      ends = (
        (refl, refl, refl, refl),
        rw (p.1, p.2) (gives_ends (IsDueOfPlay turn s plan) (λ files answer. found_for plan files ≡ Err answer) w v
            (end_of c.in_err-unix.field-0.0) c.in_err-unix.ensures.gives (refl, refl, refl)
            (λ files answer agree h. unready_due turn s plan w files answer agree h)),
      );
    }

pub returns : goal.returns
returns g c =
    let plan = plan_of c.args.launch.now in
    let turn = g.M.Machine.turn in
    let s = g.M.Machine.state c.args.machine in
    let unix = c.in_ok-unix.unix in
    let w = seen g.H.Shelf g.S.Source g.O.Sink g.E.Sink c.args.outside.now in
    let u = world (shelf_seen g.H.Shelf c.ready.new.shelf) w.input w.out w.err in
    let v = seen g.H.Shelf g.S.Source g.O.Sink g.E.Sink c.play_for.new.outside in
    record {
      ends = (
        c.play_for.ensures.same,
        gives_then (IsDueOfPlay turn s plan) (λ x. IsDueOfHeld plan.session.steps turn s unix plan.session.keep.names x.input.told)
            (λ files. IsReady plan files unix) w u v (ended c.play_for.result) c.in_ok-unix.ensures.gives (refl, refl, refl)
            (λ files due agree ready later. ready_due turn s plan w files unix due
            (λ rest found begins. c.begins_at_start.ensures unix plan.session.disk plan.moment found (arguments_of plan) rest begins) agree ready later)
            (inr c.play_for.ensures.works),
      );
    }
