use Rattle.std.proofs.Common.{◌+◌, ◌*◌, Ok, Err, ap, inl, inr, refl}
use Rattle.std.proofs.lemmas.Result.{err_from_is_err_and}
use Rattle.nv_translate.specs.Made.{AreMade}
use Rattle.command_deeds.proofs.DeedLemmas.{makes_ends, no_memory, same_shelf, written}
use Rattle.command_deeds.specs.Ends.{end_of, says}
use Rattle.command_deeds.specs.World.{output_seen, seen, world}
use Rattle.command_deeds.specs.declared.done.Done.TheVariants.{Good}
use Rattle.command_deeds.specs.declared.stop.Stop.TheVariants.{WriteFault}
use Rattle.command_guest.proofs.ImagingLemmas.{image_is}
use Rattle.command_guest.specs.Imaging.{IsImaged}
use Rattle.command_guest.specs.declared.imaging.TheConstants.{DEFAULT_PAGES}
use Rattle.command_translate.proofs.MakeLemmas.{ends_told, make_comes, make_accepted}
use Rattle.command_translate.specs.Make.{IsDueOfMake, made_lines, told}
use Rattle.command_translate.proofs.making.make.Goals as goal

pub returns-in_err-image : goal.returns-in_err-image
returns-in_err-image g c =
    let p = err_from_is_err_and c.from_residual-in_err-image.result c.from_residual-in_err-image.ensures.1 in
    let w = seen g.H.Shelf g.S.Source g.O.Sink g.E.Sink c.args.outside.now in
    record {
      same = (refl, refl, refl, refl);
      comes = rw (p.1, p.2) (makes_ends (λ x. IsDueOfMake AreMade c.args.count c.args.method_bytes c.args.moment)
          (λ answer. IsImaged DEFAULT_PAGES c.as_slice.result.now (Err answer)) w (end_of c.in_err-image.field-0.0) c.in_err-image.ensures.makes
          (λ answer h. absurd (make_accepted c.in_ok-file.file.items c.as_slice.result.now answer c.as_slice.ensures.value
          (c.made_files_are_accepted.ensures.file c.args.count c.in_ok-file.file.items c.requires.count c.in_ok-file.ensures)
          (λ runs are. c.made_files_are_accepted.ensures.image c.args.count c.in_ok-file.file.items runs c.requires.count c.in_ok-file.ensures are)
          h)));
    }

pub returns-in_err-interp_end : goal.returns-in_err-interp_end
returns-in_err-interp_end g c =
    let p = err_from_is_err_and c.from_residual-in_err-interp_end.result c.from_residual-in_err-interp_end.ensures.1 in
    let w = seen g.H.Shelf g.S.Source g.O.Sink g.E.Sink c.args.outside.now in
    record {
      same = (refl, refl, refl, refl);
      comes = rw (p.1, p.2) (no_memory (λ x. IsDueOfMake AreMade c.args.count c.args.method_bytes c.args.moment) w);
    }

pub returns-in_err-classes_end : goal.returns-in_err-classes_end
returns-in_err-classes_end g c =
    let p = err_from_is_err_and c.from_residual-in_err-classes_end.result c.from_residual-in_err-classes_end.ensures.1 in
    let w = seen g.H.Shelf g.S.Source g.O.Sink g.E.Sink c.args.outside.now in
    record {
      same = (refl, refl, refl, refl);
      comes = rw (p.1, p.2) (no_memory (λ x. IsDueOfMake AreMade c.args.count c.args.method_bytes c.args.moment) w);
    }

pub returns-in_err-write_lines : goal.returns-in_err-write_lines
returns-in_err-write_lines g c =
    let p = err_from_is_err_and c.from_residual-in_err-write_lines.result c.from_residual-in_err-write_lines.ensures.1 in
    let image = c.in_ok-image.image in
    let w = seen g.H.Shelf g.S.Source g.O.Sink g.E.Sink c.args.outside.now in
    let v = world w.shelf w.input (output_seen g.O.Sink c.write_lines.new.out) w.err in
    let told_due = ends_told c.args.count c.args.method_bytes c.args.moment
    (5 * c.from.result + 4) c.in_ok-file.file.items c.as_slice.result.now image c.in_ok-interp_end.interp_end
    c.in_ok-classes_end.classes_end c.status-interp.result c.status-classes.result
    (ap (λ n. 5 * n + 4) c.from.ensures) (image_is DEFAULT_PAGES c.as_slice.result.now image c.in_ok-image.ensures.makes) c.as_slice.ensures.value
    (c.made_programs_end.ensures c.args.count c.args.moment c.in_ok-file.file.items c.requires.count c.in_ok-file.ensures)
    c.in_ok-interp_end.ensures c.in_ok-classes_end.ensures c.status-interp.ensures c.status-classes.ensures
    in
    record {
      same = (refl, refl, refl, refl);
      comes = rw (p.1, p.2) (make_comes c.args.count c.args.method_bytes c.args.moment c.in_ok-file.file.items c.as_slice.result.now image w v
          (Err WriteFault) c.in_ok-file.ensures c.as_slice.ensures.value c.in_ok-image.ensures.makes
          (inr (
            told c.args.count c.status-interp.result c.status-classes.result,
            told_due,
            inl (c.in_err-write_lines.ensures.writes, (same_shelf w.shelf, refl, refl)),
          )));
    }

pub returns : goal.returns
returns g c =
    let image = c.in_ok-image.image in
    let w = seen g.H.Shelf g.S.Source g.O.Sink g.E.Sink c.args.outside.now in
    let v = world w.shelf w.input (output_seen g.O.Sink c.write_lines.new.out) w.err in
    let told_due = ends_told c.args.count c.args.method_bytes c.args.moment
    (5 * c.from.result + 4) c.in_ok-file.file.items c.as_slice.result.now image c.in_ok-interp_end.interp_end
    c.in_ok-classes_end.classes_end c.status-interp.result c.status-classes.result
    (ap (λ n. 5 * n + 4) c.from.ensures) (image_is DEFAULT_PAGES c.as_slice.result.now image c.in_ok-image.ensures.makes) c.as_slice.ensures.value
    (c.made_programs_end.ensures c.args.count c.args.moment c.in_ok-file.file.items c.requires.count c.in_ok-file.ensures)
    c.in_ok-interp_end.ensures c.in_ok-classes_end.ensures c.status-interp.ensures c.status-classes.ensures
    in
    record {
      same = (refl, refl, refl, refl);
      comes = make_comes c.args.count c.args.method_bytes c.args.moment c.in_ok-file.file.items c.as_slice.result.now image w v
          (Ok (says Good)) c.in_ok-file.ensures c.as_slice.ensures.value c.in_ok-image.ensures.makes
          (inr (
            told c.args.count c.status-interp.result c.status-classes.result,
            told_due,
            written (made_lines c.args.count c.status-interp.result c.status-classes.result) w v (says Good) refl c.in_ok-write_lines.ensures.writes
                (same_shelf w.shelf, refl, refl),
          ));
    }
