use Rattle.std.proofs.Common.{◌≡◌, Ok, Err, inl, inr, refl}
use Rattle.std.proofs.lemmas.Result.{err_from_is_err_and}
use Rattle.elf_definition.specs.Start.{image_of}
use Rattle.command_deeds.proofs.DeedLemmas.{gives_ends, gives_then, same_shelf, written}
use Rattle.command_deeds.specs.Ends.{end_of, says}
use Rattle.command_deeds.specs.World.{output_seen, seen, shelf_seen, world}
use Rattle.command_deeds.specs.declared.done.Done.TheVariants.{Good}
use Rattle.command_guest.proofs.DueLemmas.{list_due, list_refused}
use Rattle.command_guest.specs.Imaging.{IsImagedFrom}
use Rattle.command_guest.specs.declared.imaging.TheConstants.{DEFAULT_PAGES}
use Rattle.command_guest.specs.Listing.{IsDueOfList, listed, runs_lines}
use Rattle.command_guest.proofs.listing.list.Goals as goal

pub returns-in_err-image : goal.returns-in_err-image
returns-in_err-image g c =
    let p = err_from_is_err_and c.from_residual.result c.from_residual.ensures.1 in
    let input = c.args.input.now in
    let w = seen g.H.Shelf g.S.Source g.O.Sink g.E.Sink c.args.outside.now in
    let v = world (shelf_seen g.H.Shelf c.load_image.new.shelf) w.input w.out w.err in
    record {
      ends = (
        (refl, refl, refl, refl),
        rw (p.1, p.2) (gives_ends (IsDueOfList input) (λ files answer. IsImagedFrom input DEFAULT_PAGES files (Err answer)) w v
            (end_of c.in_err-image.field-0.0) c.in_err-image.ensures.gives (refl, refl, refl)
            (λ files answer agree h. list_refused input w files answer agree h)),
      );
    }

pub returns-in_err-write_runs : goal.returns-in_err-write_runs
returns-in_err-write_runs g c =
    let p = err_from_is_err_and c.from_residual-in_err-write_runs.result c.from_residual-in_err-write_runs.ensures.1 in
    let input = c.args.input.now in
    let image = c.in_ok-image.image in
    let runs = c.ranges-runs.result.now in
    let due = listed (image_of image).code runs in
    let stop = c.in_err-write_runs.field-0.0 in
    let w = seen g.H.Shelf g.S.Source g.O.Sink g.E.Sink c.args.outside.now in
    let u = world (shelf_seen g.H.Shelf c.load_image.new.shelf) w.input w.out w.err in
    let v = world u.shelf w.input (output_seen g.O.Sink c.write_runs.new.out) w.err in
    record {
      ends = (
        (refl, refl, refl, refl),
        rw (p.1, p.2) (gives_then (IsDueOfList input) (λ x d. d ≡ due) (λ files. IsImagedFrom input DEFAULT_PAGES files (Ok image)) w u v
            (Err stop) c.in_ok-image.ensures.gives (refl, refl, refl)
            (λ files d agree h later. list_due input w files image runs d agree h c.ranges-runs.ensures later)
            (inr (due, refl, inl (c.in_err-write_runs.ensures.prints, (same_shelf u.shelf, refl, refl))))),
      );
    }

pub returns : goal.returns
returns g c =
    let input = c.args.input.now in
    let image = c.in_ok-image.image in
    let runs = c.ranges-runs.result.now in
    let due = listed (image_of image).code runs in
    let w = seen g.H.Shelf g.S.Source g.O.Sink g.E.Sink c.args.outside.now in
    let u = world (shelf_seen g.H.Shelf c.load_image.new.shelf) w.input w.out w.err in
    let v = world u.shelf w.input (output_seen g.O.Sink c.write_runs.new.out) w.err in
    record {
      ends = (
        (refl, refl, refl, refl),
        gives_then (IsDueOfList input) (λ x d. d ≡ due) (λ files. IsImagedFrom input DEFAULT_PAGES files (Ok image)) w u v
            (Ok (says Good)) c.in_ok-image.ensures.gives (refl, refl, refl)
            (λ files d agree h later. list_due input w files image runs d agree h c.ranges-runs.ensures later)
            (inr (
              due,
              refl,
              written (runs_lines (image_of image).code runs) u v (says Good) refl c.in_ok-write_runs.ensures.prints
                  (same_shelf u.shelf, refl, refl),
            )),
      );
    }
