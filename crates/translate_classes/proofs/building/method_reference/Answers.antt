use Rattle.std.specs.Prelude.{◌&&◌}
use Rattle.std.proofs.lemmas.Bool.{and_from, and_parts}
use Rattle.emit_classes.specs.declared.member_kind.MemberKind.TheVariants.{Method}
use Rattle.emit_classes.specs.Lawful.{has_class, is_member, names_member}
use Rattle.translate_classes.specs.Room.{is_short}
use Rattle.translate_classes.proofs.Rooms.RefusalLemmas.{either-way, member-fits}
use Rattle.translate_classes.proofs.building.method_reference.Goals as goal

pub sure-requires-clause-room : goal.sure-requires-clause-room
sure-requires-clause-room c =
    let name = c.args.name.now in
    let descriptor = c.args.descriptor.now in
    λ is.
    member-fits c.args.class.now.pool 4 name descriptor (names_member Method name descriptor) c.requires.room c.requires.name
    (c.method_reference.ensures.full is)

pub sure-requires-clause-lawful : goal.sure-requires-clause-lawful
sure-requires-clause-lawful c =
    let name = c.args.name.now in
    let descriptor = c.args.descriptor.now in
    let pool = c.args.class.now.pool in
    let owner = c.args.owner in
    let named = and_parts (names_member Method name descriptor) (is_short name && is_short descriptor) c.requires.name in
    λ is.
    either-way (is_member Method pool owner name descriptor)
    (and_from (has_class pool owner) (names_member Method name descriptor) c.requires.owner named.0) (c.method_reference.ensures.unlawful is)
