use Rattle.std.proofs.Common.{Ok, take}
use Rattle.command_deeds.specs.Ends.{ShelfDoes}
use Rattle.command_deeds.specs.World.{shelf_seen}
use Rattle.command_translate.specs.Stores.{files_stored}
use Rattle.command_translate.proofs.storing.store_files.Given as goal

abbrev pub invariant-loop-file : goal.invariant-loop-file
invariant-loop-file g l = ShelfDoes (files_stored (take l.file-index l.files)) (shelf_seen g.H.Shelf l.initial.shelf) (shelf_seen g.H.Shelf l.shelf) (Ok tt)
