use Rattle.std.proofs.Common.{arith}
use Rattle.emit_classes.proofs.Written.{written-grown, written-field, written-fields}
use Rattle.emit_classes.proofs.builder.ClassBuilder.add_field.Goals as goal

pub invariant_of-self : goal.invariant_of-self
invariant_of-self c = written-grown c.self.inside c.field_slots.new.pool 2 c.self.invariant c.field_slots.ensures.grown

pub invariant_of-self-in_err-push : goal.invariant_of-self-in_err-push
invariant_of-self-in_err-push c =
    written-fields c.self.inside c.field_slots.new.pool c.push.new.self c.self.invariant c.field_slots.ensures.grown
    c.in_err-push.ensures.items

pub invariant_of-self-2 : goal.invariant_of-self-2
invariant_of-self-2 c =
    written-field c.self.inside c.field_slots.new.pool c.push.new.self c.in_ok-field.field c.args.name.now c.args.descriptor.now
    c.self.invariant c.field_slots.ensures.grown
    c.in_ok-field.ensures.there c.in_ok-field.ensures.lawful (omega arith) (omega arith) (omega arith) c.in_ok-push.ensures.items
