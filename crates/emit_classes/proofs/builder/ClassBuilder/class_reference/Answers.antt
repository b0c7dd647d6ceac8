use Rattle.emit_classes.proofs.Written.{written-grown}
use Rattle.emit_classes.proofs.builder.ClassBuilder.class_reference.Goals as goal

pub invariant_of-self : goal.invariant_of-self
invariant_of-self c = written-grown c.self.inside c.class_slot.new.pool 2 c.self.invariant c.class_slot.ensures.grown
