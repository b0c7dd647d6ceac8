use Rattle.std.proofs.Common.{Err, true, refl, subst, sym}
use Rattle.std.proofs.lemmas.Result.{err_from_is_err_and}
use Rattle.nv_translate.specs.Made.{AreMade}
use Rattle.command_deeds.proofs.DeedLemmas.{gives_ends}
use Rattle.command_deeds.specs.Ends.{Comes, end_of, ended}
use Rattle.command_deeds.specs.World.{seen, shelf_seen, world}
use Rattle.command_deeds.specs.Runs.{arguments_of, plan_of}
use Rattle.command_guest.specs.Imaging.{IsImagedFrom}
use Rattle.command_translate.proofs.GoLemmas.{go_comes, go_comes_by_meter, go_refused, go_unready}
use Rattle.command_translate.specs.Go.{IsDueOfGo}
use Rattle.command_translate.proofs.going.go.Goals as goal

pub returns-in_err-image : goal.returns-in_err-image
returns-in_err-image g c =
    let p = err_from_is_err_and c.from_residual.result c.from_residual.ensures.1 in
    let guest = c.args.guest.now in
    let input = guest.input.now in
    let plan = plan_of guest.launch in
    let meter = c.args.meter in
    let w = seen g.H.Shelf g.S.Source g.O.Sink g.E.Sink c.args.outside.now in
    let v = world (shelf_seen g.H.Shelf c.load_image.new.shelf) w.input w.out w.err in
    record {
      ends = (
        (refl, refl, refl, refl),
        rw (p.1, p.2) (gives_ends (IsDueOfGo AreMade input guest.pages c.args.method_bytes meter plan)
            (λ files answer. IsImagedFrom input guest.pages files (Err answer)) w v
            (end_of c.in_err-image.field-0.0) c.in_err-image.ensures.gives (refl, refl, refl)
            (λ files answer agree h. go_refused input guest.pages c.args.method_bytes meter plan w files answer agree h)),
      );
    }

pub returns-in_err-unix : goal.returns-in_err-unix
returns-in_err-unix g c =
    let p = err_from_is_err_and c.from_residual-in_err-unix.result c.from_residual-in_err-unix.ensures.1 in
    let guest = c.args.guest.now in
    let plan = plan_of guest.launch in
    let w = seen g.H.Shelf g.S.Source g.O.Sink g.E.Sink c.args.outside.now in
    let u = world (shelf_seen g.H.Shelf c.load_image.new.shelf) w.input w.out w.err in
    let v = world (shelf_seen g.H.Shelf c.ready.new.shelf) w.input w.out w.err in
    record {
      ends = (
        (refl, refl, refl, refl),
        rw (p.1, p.2) (go_unready plan guest.input.now guest.pages c.args.method_bytes c.args.meter c.in_ok-image.image w u v
            (end_of c.in_err-unix.field-0.0) c.in_ok-image.ensures.gives (refl, refl, refl) c.in_err-unix.ensures.gives (refl, refl, refl)),
      );
    }

pub returns-in-Some : goal.returns-in-Some
returns-in-Some g c =
    let guest = c.args.guest.now in
    let plan = plan_of guest.launch in
    let end = ended c.go_by_meter.result in
    let w = seen g.H.Shelf g.S.Source g.O.Sink g.E.Sink c.args.outside.now in
    let u = world (shelf_seen g.H.Shelf c.load_image.new.shelf) w.input w.out w.err in
    let x = world (shelf_seen g.H.Shelf c.ready.new.shelf) w.input w.out w.err in
    let v = seen g.H.Shelf g.S.Source g.O.Sink g.E.Sink c.go_by_meter.new.outside in
    record {
      ends = (
        c.go_by_meter.ensures.same,
        subst (λ meter. Comes true (IsDueOfGo AreMade guest.input.now guest.pages c.args.method_bytes meter plan) w v end) (sym c.in-Some.is)
            (go_comes_by_meter plan (λ held rest found begins. c.begins_at_start.ensures held plan.session.disk plan.moment found (arguments_of plan) rest begins)
            c.args.method_bytes c.in-Some.turns guest.input.now guest.pages c.in_ok-image.image c.in_ok-unix.unix w u x v end
            c.in_ok-image.ensures.gives (refl, refl, refl) c.in_ok-unix.ensures.gives (refl, refl, refl) c.go_by_meter.ensures.comes),
      );
    }

pub returns-in-None : goal.returns-in-None
returns-in-None g c =
    let guest = c.args.guest.now in
    let plan = plan_of guest.launch in
    let end = ended c.go_by_steps.result in
    let w = seen g.H.Shelf g.S.Source g.O.Sink g.E.Sink c.args.outside.now in
    let u = world (shelf_seen g.H.Shelf c.load_image.new.shelf) w.input w.out w.err in
    let x = world (shelf_seen g.H.Shelf c.ready.new.shelf) w.input w.out w.err in
    let v = seen g.H.Shelf g.S.Source g.O.Sink g.E.Sink c.go_by_steps.new.outside in
    record {
      ends = (
        c.go_by_steps.ensures.same,
        subst (λ meter. Comes true (IsDueOfGo AreMade guest.input.now guest.pages c.args.method_bytes meter plan) w v end) (sym c.in-None.is)
            (go_comes plan (λ held rest found begins. c.begins_at_start.ensures held plan.session.disk plan.moment found (arguments_of plan) rest begins)
            c.args.method_bytes guest.input.now guest.pages c.in_ok-image.image c.in_ok-unix.unix w u x v end
            c.in_ok-image.ensures.gives (refl, refl, refl) c.in_ok-unix.ensures.gives (refl, refl, refl) c.go_by_steps.ensures.comes),
      );
    }
