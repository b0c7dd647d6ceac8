use Rattle.std.proofs.Common.{◌+◌, Ok, Err}
use Rattle.std.proofs.lemmas.Result.{err_from_is_err_and}
use Rattle.command_deeds.specs.World.{shelf_seen}
use Rattle.command_translate.proofs.StoreLemmas.{store_more, store_stops}
use Rattle.command_translate.proofs.storing.store_files.Goals as goal

pub loop-file-preserved : goal.loop-file-preserved
loop-file-preserved g c =
    store_more c.args.files.now c.loop-file.file-index c.file-item.result (shelf_seen g.H.Shelf c.args.shelf.now)
    (shelf_seen g.H.Shelf c.loop-file.shelf) (shelf_seen g.H.Shelf c.store_file.new.shelf) tt (Ok tt)
    c.loop-file-test.true c.file-item.is c.loop-file.invariant c.in_ok-store_file.ensures.stores

pub returns-in_err-store_file : goal.returns-in_err-store_file
returns-in_err-store_file g c =
    let p = err_from_is_err_and c.from_residual.result c.from_residual.ensures.1 in
    let stop = c.in_err-store_file.field-0.0 in
    rw (p.1, p.2) (record {
      stores = store_stops c.args.files.now (c.loop-file.file-index + 1) (shelf_seen g.H.Shelf c.args.shelf.now)
          (shelf_seen g.H.Shelf c.store_file.new.shelf) stop
          (store_more c.args.files.now c.loop-file.file-index c.file-item.result (shelf_seen g.H.Shelf c.args.shelf.now)
          (shelf_seen g.H.Shelf c.loop-file.shelf) (shelf_seen g.H.Shelf c.store_file.new.shelf) tt (Err stop)
          c.loop-file-test.true c.file-item.is c.loop-file.invariant c.in_err-store_file.ensures.stores);
    })
