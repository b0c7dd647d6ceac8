use Rattle.std.proofs.Common.{◌≡◌, [], ◌∷◌, Some, Ok, Err, length, map, inl, refl, sym, ap, subst, ◌∙◌}
use Rattle.std.specs.Prelude.{codes}
use Rattle.std.proofs.lemmas.List.{length-map}
use Rattle.std.proofs.lemmas.Result.{err_from_is_err_and}
use Rattle.command_deeds.proofs.DeedLemmas.{all_then_stops, all_then_works, gives_ends, same_shelf, stops_before, written}
use Rattle.command_deeds.specs.Deeds.{DoesAll, StopsIn, prints}
use Rattle.command_deeds.specs.Ends.{answers, end_of, says}
use Rattle.command_deeds.specs.Line.{number_line}
use Rattle.command_deeds.specs.World.{StopsPrint, Takes, output_seen, seen, shelf_seen, world}
use Rattle.command_deeds.specs.declared.done.Done.TheVariants.{Good}
use Rattle.command_deeds.specs.declared.stop.Stop.TheVariants.{WriteFault}
use Rattle.command_frames.specs.Frames.{AreFilesOf, IsDueOfFrames, deed_of}
use Rattle.command_frames.proofs.FramesLemmas.{frames-come, frames-due}
use Rattle.command_frames.proofs.framed_sets.frames.Goals as goal

pub returns-in_err-classes : goal.returns-in_err-classes
returns-in_err-classes g c =
    let p = err_from_is_err_and c.from_residual.result c.from_residual.ensures.1 in
    let class = c.args.class.now in
    let w = seen g.H.Shelf g.S.Source g.O.Sink g.E.Sink c.args.outside.now in
    let v = world (shelf_seen g.H.Shelf c.framed_classes.new.shelf) w.input w.out w.err in
    record {
      ends = (
        (refl, refl, refl, refl),
        rw (p.1, p.2) (gives_ends (IsDueOfFrames class) (λ files answer. AreFilesOf class files (Err answer)) w v
            (end_of c.in_err-classes.field-0.0) c.in_err-classes.ensures.gives (refl, refl, refl)
            (λ files answer agree h. frames-due class w files (Err answer) (answers answer) agree h refl tt)),
      );
    }

pub returns-in_err-store_classes : goal.returns-in_err-store_classes
returns-in_err-store_classes g c =
    let p = err_from_is_err_and c.from_residual-in_err-store_classes.result c.from_residual-in_err-store_classes.ensures.1 in
    let class = c.args.class.now in
    let w = seen g.H.Shelf g.S.Source g.O.Sink g.E.Sink c.args.outside.now in
    let u = world (shelf_seen g.H.Shelf c.framed_classes.new.shelf) w.input w.out w.err in
    let v = world (shelf_seen g.H.Shelf c.store_classes.new.shelf) w.input w.out w.err in
    let deeds = map deed_of c.in_ok-classes.classes.items in
    let stop = c.in_err-store_classes.field-0.0 in
    record {
      ends = (
        (refl, refl, refl, refl),
        rw (p.1, p.2) (frames-come class deeds w u v (Err stop) c.in_ok-classes.ensures.gives (refl, refl, refl)
            (stops_before deeds (prints (number_line (codes "classes ") (length deeds)) ∷ []) u v stop
            (subst (λ cs. StopsIn (map deed_of cs) u v stop) c.deref.ensures.value (c.in_err-store_classes.ensures.stores w.input w.out w.err)))),
      );
    }

pub returns-in_err-write_number : goal.returns-in_err-write_number
returns-in_err-write_number g c =
    let p = err_from_is_err_and c.from_residual-in_err-write_number.result c.from_residual-in_err-write_number.ensures.1 in
    let class = c.args.class.now in
    let w = seen g.H.Shelf g.S.Source g.O.Sink g.E.Sink c.args.outside.now in
    let u = world (shelf_seen g.H.Shelf c.framed_classes.new.shelf) w.input w.out w.err in
    let x = world (shelf_seen g.H.Shelf c.store_classes.new.shelf) w.input w.out w.err in
    let v = world x.shelf w.input (output_seen g.O.Sink c.write_number.new.sink) w.err in
    let classes = c.in_ok-classes.classes.items in
    let deeds = map deed_of classes in
    let text = number_line (codes "classes ") (length deeds) in
    let same : length c.as_slice.result.now ≡ length deeds = ap length c.as_slice.ensures.value ∙ sym (length-map classes deed_of) in
    record {
      ends = (
        (refl, refl, refl, refl),
        rw (p.1, p.2) (frames-come class deeds w u v (Err WriteFault) c.in_ok-classes.ensures.gives (refl, refl, refl)
            (all_then_stops deeds (prints text ∷ []) u x v WriteFault
            (subst (λ cs. DoesAll (map deed_of cs) u x) c.deref.ensures.value (c.in_ok-store_classes.ensures.stores w.input w.out w.err))
            (inl (
              subst (λ n. StopsPrint x.out v.out (number_line (codes "classes ") n) WriteFault) same c.in_err-write_number.ensures.writes,
              (same_shelf x.shelf, refl, refl),
            )))),
      );
    }

pub returns : goal.returns
returns g c =
    let class = c.args.class.now in
    let w = seen g.H.Shelf g.S.Source g.O.Sink g.E.Sink c.args.outside.now in
    let u = world (shelf_seen g.H.Shelf c.framed_classes.new.shelf) w.input w.out w.err in
    let x = world (shelf_seen g.H.Shelf c.store_classes.new.shelf) w.input w.out w.err in
    let v = world x.shelf w.input (output_seen g.O.Sink c.write_number.new.sink) w.err in
    let classes = c.in_ok-classes.classes.items in
    let deeds = map deed_of classes in
    let text = number_line (codes "classes ") (length deeds) in
    let same : length c.as_slice.result.now ≡ length deeds = ap length c.as_slice.ensures.value ∙ sym (length-map classes deed_of) in
    record {
      ends = (
        (refl, refl, refl, refl),
        frames-come class deeds w u v (Ok (says Good)) c.in_ok-classes.ensures.gives (refl, refl, refl)
            (all_then_works deeds (prints text ∷ []) (Some (says Good)) u x v (Ok (says Good))
            (subst (λ cs. DoesAll (map deed_of cs) u x) c.deref.ensures.value (c.in_ok-store_classes.ensures.stores w.input w.out w.err))
            (written text x v (says Good) refl (subst (λ n. Takes x.out v.out (number_line (codes "classes ") n)) same
            c.in_ok-write_number.ensures.writes) (same_shelf x.shelf, refl, refl))),
      );
    }
