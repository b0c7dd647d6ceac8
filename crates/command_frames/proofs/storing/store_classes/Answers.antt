use Rattle.std.proofs.Common.{◌+◌, Ok, Err}
use Rattle.std.proofs.lemmas.Result.{err_from_is_err_and}
use Rattle.command_deeds.specs.World.{shelf_seen}
use Rattle.command_frames.proofs.StoreLemmas.{store_more, store_stops}
use Rattle.command_frames.proofs.storing.store_classes.Goals as goal

pub loop-class-preserved : goal.loop-class-preserved
loop-class-preserved g c =
    store_more c.args.classes.now c.loop-class.class-index c.class-item.result (shelf_seen g.H.Shelf c.args.shelf.now)
    (shelf_seen g.H.Shelf c.loop-class.shelf) (shelf_seen g.H.Shelf c.store_class.new.shelf) tt (Ok tt)
    c.loop-class-test.true c.class-item.is c.loop-class.invariant c.in_ok-store_class.ensures.stores

pub returns-in_err-store_class : goal.returns-in_err-store_class
returns-in_err-store_class g c =
    let p = err_from_is_err_and c.from_residual.result c.from_residual.ensures.1 in
    let stop = c.in_err-store_class.field-0.0 in
    rw (p.1, p.2) (record {
      stores = store_stops c.args.classes.now (c.loop-class.class-index + 1) (shelf_seen g.H.Shelf c.args.shelf.now)
          (shelf_seen g.H.Shelf c.store_class.new.shelf) stop
          (store_more c.args.classes.now c.loop-class.class-index c.class-item.result (shelf_seen g.H.Shelf c.args.shelf.now)
          (shelf_seen g.H.Shelf c.loop-class.shelf) (shelf_seen g.H.Shelf c.store_class.new.shelf) tt (Err stop)
          c.loop-class-test.true c.class-item.is c.loop-class.invariant c.in_err-store_class.ensures.stores);
    })
