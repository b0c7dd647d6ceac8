use Rattle.std.proofs.Common.{◌≡◌, ◌-◌, ◌≤◌, length, []}
use Rattle.jvm_type_inference.specs.Actions.{program_over}
use Rattle.jvm_type_inference.specs.Flow.{Rests}
use Rattle.jvm_type_inference.proofs.flow.Flow.admit_all.Given as goal

abbrev pub invariant-loop-at : goal.invariant-loop-at
invariant-loop-at l =
    Rests (program_over l.code.methods.now) l.code.method.now l.before l.at l.self.frames.items
    × ((length l.self.frames.items ≡ length l.code.starts.items) × ((l.self.work.items ≡ []) × (l.at ≤ length l.code.starts.items)))

abbrev pub decreases-loop-at : goal.decreases-loop-at
decreases-loop-at l = length l.code.starts.items - l.at
