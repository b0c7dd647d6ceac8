use Rattle.std.proofs.Common.{◌≡◌, ◌∙◌, ◌++◌, ◌∷◌, [], ap, length, take, arith, length-append}
use Rattle.std.proofs.lemmas.Result.{err_from_is_err_and}
use Rattle.std.proofs.Math.Seq.{take-length}
use Rattle.command_deeds.specs.Ends.{end_of}
use Rattle.command_deeds.specs.World.{shelf_seen}
use Rattle.command_deeds.proofs.DeedLemmas.{same_then_shelf}
use Rattle.obj_reader.specs.Files.{files_of}
use Rattle.command_link.proofs.LoadLemmas.{all_loaded, one_ends, one_more}
use Rattle.command_link.proofs.loading.load_files.Goals as goal

pub loop-name-preserved : goal.loop-name-preserved
loop-name-preserved g c =
    let more : c.push.new.files.items ≡ c.loop-name.files.items ++ c.in_ok-file.file ∷ [] = c.in_ok-push.ensures in
    record {
      loaded = one_more (shelf_seen g.H.Shelf c.args.shelf.now) (shelf_seen g.H.Shelf c.loop-name.shelf) (shelf_seen g.H.Shelf c.load.new.shelf)
          c.args.names.now c.loop-name.name-index c.name-item.result c.as_str.result.now c.loop-name.files.items c.push.new.files.items
          c.in_ok-file.file c.loop-name-test.true c.name-item.is c.as_str.ensures more c.loop-name.invariant.loaded c.in_ok-file.ensures.gives;
      count = omega (arith, ap length more, length-append c.loop-name.files.items (c.in_ok-file.file ∷ []), c.loop-name.invariant.count);
    }

pub returns-in_err-file-clause-gives : goal.returns-in_err-file-clause-gives
returns-in_err-file-clause-gives g c =
    let p = err_from_is_err_and c.from_residual.result c.from_residual.ensures.1 in
    rw (p.1, p.2) (one_ends (shelf_seen g.H.Shelf c.args.shelf.now) (shelf_seen g.H.Shelf c.loop-name.shelf) (shelf_seen g.H.Shelf c.load.new.shelf)
    c.args.names.now c.loop-name.name-index c.name-item.result c.as_str.result.now (files_of c.loop-name.files.items) (end_of c.in_err-file.field-0.0)
    c.loop-name-test.true c.name-item.is c.as_str.ensures c.loop-name.invariant.loaded c.in_err-file.ensures.gives)

pub returns-in_err-push-clause-gives : goal.returns-in_err-push-clause-gives
returns-in_err-push-clause-gives g c =
    let p = err_from_is_err_and c.from_residual-in_err-push.result c.from_residual-in_err-push.ensures.1 in
    rw (p.1, p.2) (same_then_shelf (shelf_seen g.H.Shelf c.args.shelf.now) (shelf_seen g.H.Shelf c.loop-name.shelf)
    (shelf_seen g.H.Shelf c.load.new.shelf) c.loop-name.invariant.loaded.same c.in_ok-file.ensures.gives.same)

pub returns-clause-gives : goal.returns-clause-gives
returns-clause-gives g c =
    let n : c.loop-name.name-index ≡ length c.args.names.now = omega arith in
    all_loaded (shelf_seen g.H.Shelf c.args.shelf.now) (shelf_seen g.H.Shelf c.loop-name.shelf) c.args.names.now c.loop-name.name-index
    (files_of c.loop-name.files.items) (ap (λ k. take k c.args.names.now) n ∙ take-length c.args.names.now) c.loop-name.invariant.loaded
