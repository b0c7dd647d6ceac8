use Rattle.jvm_type_inference.proofs.SettleLaws.{IsSettling}
use Rattle.jvm_type_inference.specs.Actions.{program_over}
use Rattle.jvm_type_inference.specs.Flow.{energy}
use Rattle.jvm_type_inference.proofs.flow.Flow.settle.Given as goal

abbrev pub invariant-loop-at : goal.invariant-loop-at
invariant-loop-at l = IsSettling (program_over l.code.methods.now) l.code.method.now l.before l.limit l.initial.self.frames.items l.self.frames.items l.self.work.items

abbrev pub decreases-loop-at : goal.decreases-loop-at
decreases-loop-at l = energy l.code.method.now.locals l.code.method.now.stack l.self.frames.items l.self.work.items
