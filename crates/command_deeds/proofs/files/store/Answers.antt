use Rattle.std.proofs.Common.{inl, refl}
use Rattle.std.proofs.lemmas.Result.{err_from_is_err_and}
use Rattle.command_deeds.specs.World.{shelf_seen}
use Rattle.command_deeds.proofs.DeedLemmas.{shelf_set, store_stopped}
use Rattle.command_deeds.proofs.files.store.Goals as goal

pub returns-in_err-store : goal.returns-in_err-store
returns-in_err-store g c =
    let p = err_from_is_err_and c.from_residual.result c.from_residual.ensures.1 in
    rw (p.1, p.2) (record {
      stores = λ input out err. inl (
        store_stopped c.in_err-store.field-0.0 (shelf_seen g.H.Shelf c.args.shelf.now)
            (shelf_seen g.H.Shelf c.store.new.self) c.args.name.now c.args.bytes.now c.in_err-store.ensures.stored c.in_err-store.ensures.count,
        (refl, refl, refl),
      );
    })

pub returns : goal.returns
returns g c = record {
  stores =
      shelf_set (shelf_seen g.H.Shelf c.args.shelf.now) (shelf_seen g.H.Shelf c.store.new.self) c.args.name.now c.args.bytes.now
      (c.in_ok-store.ensures.stored, c.in_ok-store.ensures.count.stays refl);
}
