use Rattle.command_deeds.specs.World.{shelf_seen}
use Rattle.command_deeds.proofs.ReadyLemmas.{keep_none, keep_some}
use Rattle.command_deeds.proofs.keeping.store_found.Goals as goal

pub returns-in-Some : goal.returns-in-Some
returns-in-Some g c = record {
  keeps =
      λ files node e. keep_some files node (shelf_seen g.H.Shelf c.args.shelf.now)
      (shelf_seen g.H.Shelf c.store.new.shelf) c.args.name.now c.args.found.now c.in-Some.bytes c.as_slice.result.now c.store.result c.in-Some.is
      c.as_slice.ensures.value e c.store.ensures.stores;
}

pub returns-in-None : goal.returns-in-None
returns-in-None g c = record {
  keeps = λ files node e. keep_none files node (shelf_seen g.H.Shelf c.args.shelf.now) c.args.name.now c.args.found.now tt c.in-None.is e;
}
