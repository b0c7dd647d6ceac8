use Rattle.std.proofs.Common.{Ok, map, take}
use Rattle.std.specs.Prelude.{string_bytes}
use Rattle.command_deeds.specs.Ends.{ShelfDoes}
use Rattle.command_deeds.specs.World.{shelf_seen}
use Rattle.command_deeds.specs.Runs.{kept}
use Rattle.command_deeds.proofs.keeping.keep_files.Given as goal

abbrev pub invariant-loop-name : goal.invariant-loop-name
invariant-loop-name g l =
    ShelfDoes (kept l.unix.files (map string_bytes (take l.name-index l.names))) (shelf_seen g.H.Shelf l.initial.shelf) (shelf_seen g.H.Shelf l.shelf)
    (Ok tt)
