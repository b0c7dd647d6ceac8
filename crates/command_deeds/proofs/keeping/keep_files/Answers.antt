use Rattle.std.proofs.Common.{◌+◌, Ok, Err}
use Rattle.std.proofs.lemmas.Result.{err_from_is_err_and}
use Rattle.command_deeds.specs.World.{shelf_seen}
use Rattle.command_deeds.proofs.ReadyLemmas.{keep_more, keep_stops}
use Rattle.command_deeds.proofs.keeping.keep_files.Goals as goal

pub loop-name-preserved : goal.loop-name-preserved
loop-name-preserved g c =
    keep_more c.args.unix.now.files c.args.names.now c.loop-name.name-index c.name-item.result c.as_str.result.now
    (shelf_seen g.H.Shelf c.args.shelf.now) (shelf_seen g.H.Shelf c.loop-name.shelf) (shelf_seen g.H.Shelf c.keep_file.new.shelf) tt (Ok tt)
    c.loop-name-test.true c.name-item.is c.as_str.ensures.value c.loop-name.invariant c.in_ok-keep_file.ensures.keeps

pub returns-in_err-keep_file : goal.returns-in_err-keep_file
returns-in_err-keep_file g c =
    let p = err_from_is_err_and c.from_residual.result c.from_residual.ensures.1 in
    let stop = c.in_err-keep_file.field-0.0 in
    rw (p.1, p.2) (record {
      keeps = keep_stops c.args.unix.now.files c.args.names.now (c.loop-name.name-index + 1) (shelf_seen g.H.Shelf c.args.shelf.now)
          (shelf_seen g.H.Shelf c.keep_file.new.shelf) stop
          (keep_more c.args.unix.now.files c.args.names.now c.loop-name.name-index c.name-item.result c.as_str.result.now
          (shelf_seen g.H.Shelf c.args.shelf.now) (shelf_seen g.H.Shelf c.loop-name.shelf) (shelf_seen g.H.Shelf c.keep_file.new.shelf) tt (Err stop)
          c.loop-name-test.true c.name-item.is c.as_str.ensures.value c.loop-name.invariant c.in_err-keep_file.ensures.keeps);
    })
