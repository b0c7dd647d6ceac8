use Rattle.std.proofs.Common.{◌+◌, length, inr}
use Rattle.std.specs.Prelude.{◌&&◌}
use Rattle.std.proofs.lemmas.Bool.{and_parts}
use Rattle.class_definition.specs.NameGrammar.{is_member_name}
use Rattle.class_definition.specs.Named.{is_own_descriptor}
use Rattle.emit_assembly.specs.Assembling.{slots_of}
use Rattle.translate_classes.specs.Room.{is_short}
use Rattle.translate_classes.proofs.Rooms.RefusalLemmas.{either-way, added-fits}
use Rattle.translate_classes.proofs.building.put_method.Goals as goal

pub sure-requires-clause-room : goal.sure-requires-clause-room
sure-requires-clause-room c =
    let name = c.args.name.now in
    let descriptor = c.args.descriptor.now in
    let class = c.args.class.now in
    λ is.
    added-fits (length class.methods) class.pool (2 + slots_of c.args.code.now) name descriptor
    (is_member_name name && is_own_descriptor descriptor) c.requires.few c.requires.room c.requires.name (inr (c.put_method.ensures.full is))

pub sure-requires-clause-lawful : goal.sure-requires-clause-lawful
sure-requires-clause-lawful c =
    let name = c.args.name.now in
    let descriptor = c.args.descriptor.now in
    let lawful = is_member_name name && is_own_descriptor descriptor in
    λ is.
    either-way lawful (and_parts lawful (is_short name && is_short descriptor) c.requires.name).0 (c.put_method.ensures.unlawful is)
