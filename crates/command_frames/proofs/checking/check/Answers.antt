use Rattle.std.proofs.Common.{◌≡◌, Ok, Err, inl, inr, refl}
use Rattle.std.proofs.lemmas.Result.{err_from_is_err_and}
use Rattle.command_deeds.proofs.DeedLemmas.{gives_ends, gives_then, same_shelf, written}
use Rattle.command_deeds.specs.Ends.{answers, end_of, says}
use Rattle.command_deeds.specs.World.{output_seen, seen, shelf_seen, world}
use Rattle.command_deeds.specs.declared.done.Done.TheVariants.{Good}
use Rattle.command_deeds.specs.declared.stop.Stop.TheVariants.{WriteFault}
use Rattle.command_frames.proofs.CheckLemmas.{check-due}
use Rattle.command_guest.specs.Classes.{classes_counted, counts_line}
use Rattle.command_frames.specs.Check.{IsCheckedFrom, IsDueOfCheck}
use Rattle.command_frames.proofs.checking.check.Goals as goal

pub returns-in_err-linked : goal.returns-in_err-linked
returns-in_err-linked g c =
    let p = err_from_is_err_and c.from_residual.result c.from_residual.ensures.1 in
    let class = c.args.class.now in
    let w = seen g.H.Shelf g.S.Source g.O.Sink g.E.Sink c.args.outside.now in
    let v = world (shelf_seen g.H.Shelf c.checked_classes.new.shelf) w.input w.out w.err in
    record {
      ends = (
        (refl, refl, refl, refl),
        rw (p.1, p.2) (gives_ends (IsDueOfCheck class) (λ files answer. IsCheckedFrom class files (Err answer)) w v
            (end_of c.in_err-linked.field-0.0) c.in_err-linked.ensures.gives (refl, refl, refl)
            (λ files answer agree h. check-due class w files (Err answer) (answers answer) agree h refl tt)),
      );
    }

pub returns-in_err-write_counts : goal.returns-in_err-write_counts
returns-in_err-write_counts g c =
    let p = err_from_is_err_and c.from_residual-in_err-write_counts.result c.from_residual-in_err-write_counts.ensures.1 in
    let class = c.args.class.now in
    let classes = c.in_ok-linked.linked.classes in
    let due = classes_counted classes in
    let w = seen g.H.Shelf g.S.Source g.O.Sink g.E.Sink c.args.outside.now in
    let u = world (shelf_seen g.H.Shelf c.checked_classes.new.shelf) w.input w.out w.err in
    let v = world u.shelf w.input (output_seen g.O.Sink c.write_counts.new.out) w.err in
    record {
      ends = (
        (refl, refl, refl, refl),
        rw (p.1, p.2) (gives_then (IsDueOfCheck class) (λ x d. d ≡ due) (λ files. IsCheckedFrom class files (Ok classes)) w u v
            (Err WriteFault) c.in_ok-linked.ensures.gives (refl, refl, refl)
            (λ files d agree h later. check-due class w files (Ok classes) d agree h tt later)
            (inr (due, refl, inl (c.in_err-write_counts.ensures.writes, (same_shelf u.shelf, refl, refl))))),
      );
    }

pub returns : goal.returns
returns g c =
    let class = c.args.class.now in
    let classes = c.in_ok-linked.linked.classes in
    let due = classes_counted classes in
    let w = seen g.H.Shelf g.S.Source g.O.Sink g.E.Sink c.args.outside.now in
    let u = world (shelf_seen g.H.Shelf c.checked_classes.new.shelf) w.input w.out w.err in
    let v = world u.shelf w.input (output_seen g.O.Sink c.write_counts.new.out) w.err in
    record {
      ends = (
        (refl, refl, refl, refl),
        gives_then (IsDueOfCheck class) (λ x d. d ≡ due) (λ files. IsCheckedFrom class files (Ok classes)) w u v (Ok (says Good))
            c.in_ok-linked.ensures.gives (refl, refl, refl)
            (λ files d agree h later. check-due class w files (Ok classes) d agree h tt later)
            (inr (
              due,
              refl,
              written (counts_line classes) u v (says Good) refl c.in_ok-write_counts.ensures.writes (same_shelf u.shelf, refl, refl),
            )),
      );
    }
