use Rattle.std.proofs.Common.{false, refl}
use Rattle.class_sets.specs.declared.version.Version.TheVariants.{V51}
use Rattle.command_deeds.specs.World.{shelf_seen}
use Rattle.command_frames.specs.Check.{IsCheckedLoaded, classes_of}
use Rattle.command_frames.proofs.CheckLemmas.{set-gives}
use Rattle.command_frames.proofs.checking.checked_classes.Goals as goal

pub returns : goal.returns
returns g c = record {
  gives = set-gives (λ set check. IsCheckedLoaded c.args.class.now set (classes_of check)) V51 c.args.class.now c.as_str.result.now (shelf_seen g.H.Shelf c.args.shelf.now)
      (shelf_seen g.H.Shelf c.load_named_set.new.shelf) c.in_ok-set.set c.check_set.result c.as_str.ensures.value c.in_ok-set.ensures.loaded c.in_ok-set.ensures.same
      (c.in_ok-set.ensures.count.stays (refl {a = false})) c.check_set.ensures.makes;
}
