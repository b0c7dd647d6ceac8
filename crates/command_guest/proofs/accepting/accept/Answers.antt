use Rattle.std.proofs.Common.{false, refl}
use Rattle.command_deeds.specs.World.{shelf_seen}
use Rattle.command_guest.proofs.ClassLemmas.{set_gives}
use Rattle.command_guest.proofs.accepting.accept.Goals as goal

pub returns : goal.returns
returns g c = record {
  gives = set_gives c.args.class.now c.as_str.result.now (shelf_seen g.H.Shelf c.args.shelf.now) (shelf_seen g.H.Shelf c.load_set.new.shelf)
      c.in_ok-loaded.loaded c.accept_loaded.result c.as_str.ensures.value c.in_ok-loaded.ensures.loaded c.in_ok-loaded.ensures.same
      (c.in_ok-loaded.ensures.count.stays (refl {a = false})) c.accept_loaded.ensures.makes;
}
