use Rattle.std.proofs.Common.{◌≡◌, length}
use Rattle.command_deeds.specs.World.{shelf_seen}
use Rattle.obj_reader.specs.Files.{files_of}
use Rattle.command_link.proofs.LoadLemmas.{HasLoaded}
use Rattle.command_link.proofs.loading.load_files.Given as goal

abbrev pub invariant-loop-name : goal.invariant-loop-name
invariant-loop-name g l = record {
  loaded : HasLoaded (shelf_seen g.H.Shelf l.initial.shelf) (shelf_seen g.H.Shelf l.shelf) l.names l.name-index (files_of l.files.items);
  count : length l.files.items ≡ l.name-index;
}
