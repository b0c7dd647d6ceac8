use Rattle.std.proofs.lemmas.Bool.{and_parts}
use Rattle.class_definition.specs.NameGrammar.{is_class_file_name}
use Rattle.translate_classes.specs.Room.{is_short}
use Rattle.translate_classes.proofs.Rooms.RefusalLemmas.{either-way, not-long}
use Rattle.translate_classes.proofs.building.new_class.Goals as goal

pub sure-requires-clause-room : goal.sure-requires-clause-room
sure-requires-clause-room c =
    let name = c.args.name.now in
    λ is. either-way _ (c.new.ensures.full is) (not-long _ (and_parts (is_class_file_name name) (is_short name) c.requires).1)

pub sure-requires-clause-lawful : goal.sure-requires-clause-lawful
sure-requires-clause-lawful c =
    let name = c.args.name.now in
    λ is. either-way (is_class_file_name name) (and_parts (is_class_file_name name) (is_short name) c.requires).0 (c.new.ensures.unlawful is)
