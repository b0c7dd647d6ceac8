use Rattle.emit_classes.proofs.Written.{written-grown}
use Rattle.emit_classes.proofs.builder.ClassBuilder.method_reference.Goals as goal

pub invariant_of-self : goal.invariant_of-self
invariant_of-self c = written-grown c.self.inside c.member_slot.new.pool 4 c.self.invariant c.member_slot.ensures.grown
