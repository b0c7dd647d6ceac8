use Rattle.emit_classes.proofs.Written.{written-grown}
use Rattle.emit_classes.proofs.builder.ClassBuilder.text.Goals as goal

pub invariant_of-self : goal.invariant_of-self
invariant_of-self c = written-grown c.self.inside c.add_text.new.self 1 c.self.invariant c.add_text.ensures.grown

pub invariant_of-self-2 : goal.invariant_of-self-2
invariant_of-self-2 c = written-grown c.self.inside c.add_text.new.self 1 c.self.invariant c.add_text.ensures.grown
