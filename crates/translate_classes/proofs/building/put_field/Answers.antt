use Rattle.std.proofs.Common.{length}
use Rattle.std.specs.Prelude.{◌&&◌}
use Rattle.std.proofs.lemmas.Bool.{and_parts}
use Rattle.emit_classes.specs.declared.member_kind.MemberKind.TheVariants.{Field}
use Rattle.emit_classes.specs.Lawful.{names_member}
use Rattle.translate_classes.specs.Room.{is_short}
use Rattle.translate_classes.proofs.Rooms.RefusalLemmas.{either-way, added-fits}
use Rattle.translate_classes.proofs.building.put_field.Goals as goal

pub sure-requires-clause-room : goal.sure-requires-clause-room
sure-requires-clause-room c =
    let name = c.args.name.now in
    let descriptor = c.args.descriptor.now in
    let class = c.args.class.now in
    λ is.
    added-fits (length class.fields) class.pool 2 name descriptor (names_member Field name descriptor) c.requires.few c.requires.room
    c.requires.name (c.add_field.ensures.full is)

pub sure-requires-clause-lawful : goal.sure-requires-clause-lawful
sure-requires-clause-lawful c =
    let name = c.args.name.now in
    let descriptor = c.args.descriptor.now in
    let named = and_parts (names_member Field name descriptor) (is_short name && is_short descriptor) c.requires.name in
    λ is. either-way (names_member Field name descriptor) named.0 (c.add_field.ensures.unlawful is)
