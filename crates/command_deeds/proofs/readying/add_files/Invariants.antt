use Rattle.std.proofs.Common.{Ok, map, take}
use Rattle.std.specs.Prelude.{string_bytes}
use Rattle.command_deeds.specs.World.{shelf_seen}
use Rattle.command_deeds.specs.Readying.{AddsFiles}
use Rattle.command_deeds.proofs.readying.add_files.Given as goal

abbrev pub invariant-loop-name : goal.invariant-loop-name
invariant-loop-name g l =
    AddsFiles (shelf_seen g.H.Shelf l.initial.shelf) (shelf_seen g.H.Shelf l.shelf) l.word
    (map string_bytes (take l.name-index l.names)) l.initial.unix l.unix (Ok tt)
