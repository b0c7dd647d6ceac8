use Rattle.std.proofs.Common.{take}
use Rattle.jvm_type_inference.specs.Flow.{FlowsToAll}
use Rattle.jvm_type_inference.specs.Frames.{type_frame}
use Rattle.jvm_type_inference.proofs.FlowLaws.{StillBelow}
use Rattle.jvm_type_inference.proofs.flow.Flow.flow_to_each.Given as goal

abbrev pub invariant-loop-target : goal.invariant-loop-target
invariant-loop-target l =
    FlowsToAll l.code.method.now l.limit (type_frame l.frame) (take l.target-index l.targets) l.initial.self.frames.items l.initial.self.work.items l.self.frames.items l.self.work.items
    × StillBelow l.code.method.now (type_frame l.frame) l.targets l.initial.self.frames.items l.self.frames.items
