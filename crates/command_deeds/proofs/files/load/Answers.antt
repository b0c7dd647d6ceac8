use Rattle.std.proofs.Common.{false, refl, string_bytes}
use Rattle.command_deeds.specs.World.{shelf_seen}
use Rattle.command_deeds.proofs.DeedLemmas.{load_found, load_lacks}
use Rattle.command_deeds.proofs.files.load.Goals as goal

pub returns-in-Some : goal.returns-in-Some
returns-in-Some g c = record {
  gives = load_found (shelf_seen g.H.Shelf c.args.shelf.now) (shelf_seen g.H.Shelf c.load.new.self) c.args.word c.args.name.now
      c.in_ok-file.field-0 c.in-Some.file c.in_ok-file.ensures.found
      (c.load.ensures.same, c.in_ok-file.ensures.count.stays (refl {a = false})) c.in-Some.is;
}

pub returns-in_ok-from_str-in-None : goal.returns-in_ok-from_str-in-None
returns-in_ok-from_str-in-None g c = record {
  gives = (
    refl,
    load_lacks (shelf_seen g.H.Shelf c.args.shelf.now) (shelf_seen g.H.Shelf c.load.new.self) c.args.word c.args.name.now
        (string_bytes c.in_ok-from_str-in-None.field-0) c.in_ok-file.field-0 c.in_ok-file.ensures.found
        (c.load.ensures.same, c.in_ok-file.ensures.count.stays (refl {a = false})) c.in-None.is c.in_ok-from_str-in-None.ensures.ok,
  );
}
