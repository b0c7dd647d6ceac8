use Rattle.std.proofs.lemmas.Result.{err_from_is_err_and}
use Rattle.unix_definition.specs.Files.{node_named}
use Rattle.command_deeds.specs.World.{shelf_seen}
use Rattle.command_deeds.proofs.ReadyLemmas.{keep_no_memory}
use Rattle.command_deeds.proofs.keeping.keep_file.Goals as goal

pub returns : goal.returns
returns g c = record {
  keeps =
      c.store_found.ensures.keeps c.args.unix.now.files (node_named c.args.unix.now.files c.args.name.now)
      (rw (← c.as_bytes.ensures.value) c.in_ok-found.ensures.found);
}

pub returns-in_err-found : goal.returns-in_err-found
returns-in_err-found g c =
    let p = err_from_is_err_and c.from_residual.result c.from_residual.ensures.1 in
    rw (p.1, p.2) (record {
      keeps =
          keep_no_memory c.args.unix.now.files c.args.name.now (node_named c.args.unix.now.files c.args.name.now) (shelf_seen g.H.Shelf c.args.shelf.now)
          (rw (← c.as_bytes.ensures.value) c.in_err-found.ensures.there);
    })
