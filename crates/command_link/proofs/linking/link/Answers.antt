use Rattle.std.proofs.Common.{[], ◌∷◌, Some, Ok, Err, inl, refl, ap, subst}
use Rattle.std.proofs.lemmas.Result.{err_from_is_err_and}
use Rattle.std.specs.Prelude.{codes, length}
use Rattle.obj_reader.specs.Files.{files_of}
use Rattle.command_deeds.proofs.DeedLemmas.{all_then_stops, all_then_works, same_shelf, stops_before, written}
use Rattle.command_deeds.specs.Deeds.{DoesAll, StopsIn, prints, stores}
use Rattle.command_deeds.specs.Ends.{end_of, says}
use Rattle.command_deeds.specs.Line.{number_line}
use Rattle.command_deeds.specs.World.{StopsPrint, Takes, output_seen, seen, shelf_seen, world}
use Rattle.command_deeds.specs.declared.done.Done.TheVariants.{Good}
use Rattle.command_deeds.specs.declared.stop.Stop.TheVariants.{WriteFault}
use Rattle.command_link.proofs.LinkLemmas.{link_comes, link_lacks, link_refuses}
use Rattle.command_link.proofs.linking.link.Goals as goal

pub returns-in_err-objects : goal.returns-in_err-objects
returns-in_err-objects g c =
    let p = err_from_is_err_and c.from_residual.result c.from_residual.ensures.1 in
    let w = seen g.H.Shelf g.S.Source g.O.Sink g.E.Sink c.args.outside.now in
    let v = world (shelf_seen g.H.Shelf c.load_files.new.shelf) w.input w.out w.err in
    record {
      ends = (
        (refl, refl, refl, refl),
        rw (p.1, p.2) (link_lacks c.args.output.now c.args.inputs.now c.args.entry.now w v (end_of c.in_err-objects.field-0.0)
            c.in_err-objects.ensures.gives (refl, refl, refl)),
      );
    }

pub returns-in_err-program : goal.returns-in_err-program
returns-in_err-program g c =
    let p = err_from_is_err_and c.from_residual-in_err-program.result c.from_residual-in_err-program.ensures.1 in
    let w = seen g.H.Shelf g.S.Source g.O.Sink g.E.Sink c.args.outside.now in
    let u = world (shelf_seen g.H.Shelf c.load_files.new.shelf) w.input w.out w.err in
    record {
      ends = (
        (refl, refl, refl, refl),
        rw (p.1, p.2) (link_refuses c.args.output.now c.args.inputs.now c.args.entry.now (files_of c.in_ok-objects.objects.items)
            (files_of c.as_slice.result.now) w u (end_of c.in_err-program.field-0.0) (ap files_of c.as_slice.ensures.value)
            c.in_ok-objects.ensures.gives (refl, refl, refl) c.in_err-program.ensures.makes),
      );
    }

pub returns-in_err-store : goal.returns-in_err-store
returns-in_err-store g c =
    let p = err_from_is_err_and c.from_residual-in_err-store.result c.from_residual-in_err-store.ensures.1 in
    let w = seen g.H.Shelf g.S.Source g.O.Sink g.E.Sink c.args.outside.now in
    let u = world (shelf_seen g.H.Shelf c.load_files.new.shelf) w.input w.out w.err in
    let v = world (shelf_seen g.H.Shelf c.store.new.shelf) w.input w.out w.err in
    let output = c.args.output.now in
    let program = c.in_ok-program.program.items in
    let stop = c.in_err-store.field-0.0 in
    record {
      ends = (
        (refl, refl, refl, refl),
        rw (p.1, p.2) (link_comes output c.args.inputs.now c.args.entry.now (files_of c.in_ok-objects.objects.items) (files_of c.as_slice.result.now)
            program w u v (Err stop) (ap files_of c.as_slice.ensures.value) c.in_ok-objects.ensures.gives (refl, refl, refl) c.in_ok-program.ensures.makes
            (stops_before (stores output program ∷ []) (prints (number_line (codes "bytes ") (length program)) ∷ []) u v stop
            (subst (λ b. StopsIn (stores output b ∷ []) u v stop) c.as_slice-2.ensures.value (c.in_err-store.ensures.stores w.input w.out w.err)))),
      );
    }

pub returns-in_err-write_number : goal.returns-in_err-write_number
returns-in_err-write_number g c =
    let p = err_from_is_err_and c.from_residual-in_err-write_number.result c.from_residual-in_err-write_number.ensures.1 in
    let w = seen g.H.Shelf g.S.Source g.O.Sink g.E.Sink c.args.outside.now in
    let u = world (shelf_seen g.H.Shelf c.load_files.new.shelf) w.input w.out w.err in
    let x = world (shelf_seen g.H.Shelf c.store.new.shelf) w.input w.out w.err in
    let v = world x.shelf w.input (output_seen g.O.Sink c.write_number.new.sink) w.err in
    let output = c.args.output.now in
    let program = c.in_ok-program.program.items in
    let text = number_line (codes "bytes ") (length program) in
    record {
      ends = (
        (refl, refl, refl, refl),
        rw (p.1, p.2) (link_comes output c.args.inputs.now c.args.entry.now (files_of c.in_ok-objects.objects.items) (files_of c.as_slice.result.now)
            program w u v (Err WriteFault) (ap files_of c.as_slice.ensures.value) c.in_ok-objects.ensures.gives (refl, refl, refl)
            c.in_ok-program.ensures.makes
            (all_then_stops (stores output program ∷ []) (prints text ∷ []) u x v WriteFault
            (subst (λ b. DoesAll (stores output b ∷ []) u x) c.as_slice-2.ensures.value (c.in_ok-store.ensures.stores w.input w.out w.err))
            (inl (
              subst (λ b. StopsPrint x.out v.out (number_line (codes "bytes ") (length b)) WriteFault) c.as_slice-3.ensures.value
                  c.in_err-write_number.ensures.writes,
              (same_shelf x.shelf, refl, refl),
            )))),
      );
    }

pub returns : goal.returns
returns g c =
    let w = seen g.H.Shelf g.S.Source g.O.Sink g.E.Sink c.args.outside.now in
    let u = world (shelf_seen g.H.Shelf c.load_files.new.shelf) w.input w.out w.err in
    let x = world (shelf_seen g.H.Shelf c.store.new.shelf) w.input w.out w.err in
    let v = world x.shelf w.input (output_seen g.O.Sink c.write_number.new.sink) w.err in
    let output = c.args.output.now in
    let program = c.in_ok-program.program.items in
    let text = number_line (codes "bytes ") (length program) in
    record {
      ends = (
        (refl, refl, refl, refl),
        link_comes output c.args.inputs.now c.args.entry.now (files_of c.in_ok-objects.objects.items) (files_of c.as_slice.result.now)
            program w u v (Ok (says Good)) (ap files_of c.as_slice.ensures.value) c.in_ok-objects.ensures.gives (refl, refl, refl)
            c.in_ok-program.ensures.makes
            (all_then_works (stores output program ∷ []) (prints text ∷ []) (Some (says Good)) u x v (Ok (says Good))
            (subst (λ b. DoesAll (stores output b ∷ []) u x) c.as_slice-2.ensures.value (c.in_ok-store.ensures.stores w.input w.out w.err))
            (written text x v (says Good) refl (subst (λ b. Takes x.out v.out (number_line (codes "bytes ") (length b))) c.as_slice-3.ensures.value
            c.in_ok-write_number.ensures.writes) (same_shelf x.shelf, refl, refl))),
      );
    }
