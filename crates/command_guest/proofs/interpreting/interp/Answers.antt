use Rattle.std.proofs.Common.{true, Ok, Err, inl, refl, subst}
use Rattle.std.proofs.lemmas.Result.{err_from_is_err_and}
use Rattle.mips_definition.specs.Step.{turn}
use Rattle.elf_definition.specs.Start.{image_of}
use Rattle.elf_definition.specs.Loading.{start_of}
use Rattle.command_deeds.proofs.DeedLemmas.{gives_ends, gives_then}
use Rattle.command_deeds.specs.Ends.{Comes, end_of, ended}
use Rattle.command_deeds.specs.World.{seen, shelf_seen, world}
use Rattle.command_deeds.specs.Runs.{IsDueOfPlay, plan_of}
use Rattle.command_guest.proofs.DueLemmas.{interp_due, interp_refused}
use Rattle.command_guest.specs.Imaging.{IsImagedFrom}
use Rattle.command_guest.specs.Interp.{IsDueOfInterp}
use Rattle.command_guest.proofs.interpreting.interp.Goals as goal

pub returns-in_err-image : goal.returns-in_err-image
returns-in_err-image g c =
    let p = err_from_is_err_and c.from_residual.result c.from_residual.ensures.1 in
    let guest = c.args.guest.now in
    let input = guest.input.now in
    let plan = plan_of guest.launch in
    let w = seen g.H.Shelf g.S.Source g.O.Sink g.E.Sink c.args.outside.now in
    let v = world (shelf_seen g.H.Shelf c.load_image.new.shelf) w.input w.out w.err in
    record {
      ends = (
        (refl, refl, refl, refl),
        rw (p.1, p.2) (gives_ends (IsDueOfInterp input guest.pages plan) (λ files answer. IsImagedFrom input guest.pages files (Err answer)) w v
            (end_of c.in_err-image.field-0.0) c.in_err-image.ensures.gives (refl, refl, refl)
            (λ files answer agree h. interp_refused input guest.pages plan w files answer agree h)),
      );
    }

pub returns-in_err-mips : goal.returns-in_err-mips
returns-in_err-mips g c =
    let p = err_from_is_err_and c.from_residual-in_err-mips.result c.from_residual-in_err-mips.ensures.1 in
    record { ends = ((refl, refl, refl, refl), rw (p.1, p.2) (inl (c.in_ok-image.ensures.gives.same, (refl, refl, refl)))) }

pub returns : goal.returns
returns g c =
    let guest = c.args.guest.now in
    let input = guest.input.now in
    let plan = plan_of guest.launch in
    let image = c.in_ok-image.image in
    let w = seen g.H.Shelf g.S.Source g.O.Sink g.E.Sink c.args.outside.now in
    let now = shelf_seen g.H.Shelf c.load_image.new.shelf in
    let u = world now w.input w.out w.err in
    let v = seen g.H.Shelf g.S.Source g.O.Sink g.E.Sink c.play_session.new.outside in
    let over = c.in_ok-image.ensures.gives in
    record {
      ends = (
        c.play_session.ensures.ends.0,
        gives_then (IsDueOfInterp input guest.pages plan) (IsDueOfPlay turn (start_of (image_of image)) plan)
            (λ files. IsImagedFrom input guest.pages files (Ok image)) w u v (ended c.play_session.result) over (refl, refl, refl)
            (λ files due agree h later. interp_due input guest.pages plan w now files image due over.same.0 agree h later)
            (subst (λ s. Comes true (IsDueOfPlay turn s plan) u v (ended c.play_session.result)) c.in_ok-mips.ensures.state c.play_session.ensures.ends.1),
      );
    }
