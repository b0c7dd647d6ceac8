use Rattle.std.proofs.Common.{length, ap, arith}
use Rattle.translate_classes.proofs.MainClasses.FieldLemmas.{no-fields, field-next}
use Rattle.translate_classes.proofs.Rooms.CountLemmas.{fields-count}
use Rattle.translate_classes.proofs.main_fields.add_fields.Goals as goal

pub loop-field-init : goal.loop-field-init
loop-field-init c = (no-fields c.args.class.now, omega arith)

pub loop-field-preserved : goal.loop-field-preserved
loop-field-preserved c = (
  field-next c.args.class.now c.loop-field.class c.add_field.new.class c.loop-field.field c.loop-field.invariant.0 c.in_ok-add_field.ensures,
  omega (arith, c.loop-field.invariant.1, c.in_ok-add_field.ensures.pool.few),
)

pub add_field-requires-clause-few : goal.add_field-requires-clause-few
add_field-requires-clause-few c =
    omega (
      arith,
      fields-count c.args.class.now c.loop-field.class c.loop-field.field c.loop-field.invariant.0,
      ap length c.requires.none,
    )

pub add_field-requires-clause-room : goal.add_field-requires-clause-room
add_field-requires-clause-room c = omega (arith, c.requires.room, c.loop-field.invariant.1)
