use Rattle.std.proofs.Common.{Ok, map, take}
use Rattle.command_deeds.specs.Ends.{ShelfDoes}
use Rattle.command_deeds.specs.World.{shelf_seen}
use Rattle.command_frames.specs.Frames.{deed_of}
use Rattle.command_frames.proofs.storing.store_classes.Given as goal

abbrev pub invariant-loop-class : goal.invariant-loop-class
invariant-loop-class g l = ShelfDoes (map deed_of (take l.class-index l.classes)) (shelf_seen g.H.Shelf l.initial.shelf) (shelf_seen g.H.Shelf l.shelf) (Ok tt)
