use Rattle.std.proofs.lemmas.Bool.{and_parts}
use Rattle.emit_classes.specs.Lawful.{names_class}
use Rattle.translate_classes.specs.Room.{is_short}
use Rattle.translate_classes.proofs.Rooms.RefusalLemmas.{either-way, name-fits}
use Rattle.translate_classes.proofs.building.class_reference.Goals as goal

pub sure-requires-clause-room : goal.sure-requires-clause-room
sure-requires-clause-room c =
    let name = c.args.name.now in
    λ is. name-fits c.args.class.now.pool 2 name (names_class name) c.requires.room c.requires.name (c.class_reference.ensures.full is)

pub sure-requires-clause-lawful : goal.sure-requires-clause-lawful
sure-requires-clause-lawful c =
    let name = c.args.name.now in
    λ is.
    either-way (names_class name) (and_parts (names_class name) (is_short name) c.requires.name).0 (c.class_reference.ensures.unlawful is)
