use Rattle.jvm_type_inference.specs.Actions.{program_over}
use Rattle.jvm_type_inference.specs.Flow.{SpreadTo}
use Rattle.jvm_type_inference.proofs.spreading.spread.Given as goal

abbrev pub invariant-loop-at : goal.invariant-loop-at
invariant-loop-at l = SpreadTo (program_over l.code.methods.now) l.code.method.now l.before l.at l.initial.spread.items l.spread.items
