use Rattle.std.proofs.Common.{◌≡◌, ◌+◌, Ok, Err, length, arith, subst}
use Rattle.std.proofs.lemmas.Result.{err_from_is_err_and}
use Rattle.command_deeds.specs.World.{shelf_seen}
use Rattle.command_deeds.specs.Readying.{AddsFiles}
use Rattle.command_deeds.proofs.ReadyLemmas.{files_more, files_stopped, none_added, open_more, short_name, texts_whole}
use Rattle.command_deeds.proofs.readying.add_files.Goals as goal

pub add_file-requires-clause-open : goal.add_file-requires-clause-open
add_file-requires-clause-open g c =
    open_more (shelf_seen g.H.Shelf c.args.shelf.now) (shelf_seen g.H.Shelf c.loop-name.shelf) c.args.word c.args.names.now c.loop-name.name-index
    c.args.unix.now c.loop-name.unix tt c.loop-name-test.true c.requires.names.few c.requires.new c.loop-name.invariant

pub add_file-requires-clause-short : goal.add_file-requires-clause-short
add_file-requires-clause-short g c =
    rw c.as_str.ensures.value (short_name c.args.names.now c.loop-name.name-index c.name-item.result c.loop-name-test.true c.name-item.is
    c.requires.names.each)

pub loop-name-init : goal.loop-name-init
loop-name-init g c = none_added (shelf_seen g.H.Shelf c.args.shelf.now) c.args.word c.args.unix.now tt

pub loop-name-preserved : goal.loop-name-preserved
loop-name-preserved g c =
    files_more (shelf_seen g.H.Shelf c.args.shelf.now) (shelf_seen g.H.Shelf c.loop-name.shelf)
    (shelf_seen g.H.Shelf c.add_file.new.shelf) c.args.word c.args.names.now c.loop-name.name-index c.name-item.result c.as_str.result.now
    c.args.unix.now c.loop-name.unix c.add_file.new.unix tt (Ok tt)
    c.loop-name-test.true c.name-item.is c.as_str.ensures.value c.requires.names.different c.loop-name.invariant c.in_ok-add_file.ensures.adds

pub returns-in_err-add_file : goal.returns-in_err-add_file
returns-in_err-add_file g c =
    let p = err_from_is_err_and c.from_residual.result c.from_residual.ensures.1 in
    let e = c.in_err-add_file.field-0.0 in
    rw (p.1, p.2) (record {
      adds = files_stopped (shelf_seen g.H.Shelf c.args.shelf.now) (shelf_seen g.H.Shelf c.add_file.new.shelf) c.args.word c.args.names.now
          (c.loop-name.name-index + 1) c.args.unix.now c.add_file.new.unix e
          (files_more (shelf_seen g.H.Shelf c.args.shelf.now) (shelf_seen g.H.Shelf c.loop-name.shelf)
          (shelf_seen g.H.Shelf c.add_file.new.shelf) c.args.word c.args.names.now c.loop-name.name-index c.name-item.result c.as_str.result.now
          c.args.unix.now c.loop-name.unix c.add_file.new.unix tt (Err e)
          c.loop-name-test.true c.name-item.is c.as_str.ensures.value c.requires.names.different c.loop-name.invariant c.in_err-add_file.ensures.adds);
    })

pub returns : goal.returns
returns g c =
    let n : c.loop-name.name-index ≡ length c.args.names.now = omega arith in
    record {
      adds = subst (λ ts. AddsFiles (shelf_seen g.H.Shelf c.args.shelf.now)
          (shelf_seen g.H.Shelf c.loop-name.shelf) c.args.word ts c.args.unix.now c.loop-name.unix (Ok tt))
          (texts_whole c.args.names.now c.loop-name.name-index n) c.loop-name.invariant;
    }
