use Rattle.std.proofs.Common.{◌≤◌, ◌-◌, length}
use Rattle.jvm_type_inference.specs.Actions.{program_over}
use Rattle.jvm_type_inference.specs.Frames.{type_frame}
use Rattle.jvm_type_inference.proofs.WalkLaws.{IsWalking}
use Rattle.jvm_type_inference.proofs.walk.walk.Given as goal

abbrev pub invariant-loop-line : goal.invariant-loop-line
invariant-loop-line l =
    IsWalking (program_over l.code.methods.now) l.code.method.now l.before l.first (type_frame l.frame) l.at (type_frame l.working)
    × (length l.working.locals ≤ l.code.method.now.locals)

abbrev pub decreases-loop-line : goal.decreases-loop-line
decreases-loop-line l = length l.code.starts.items - l.at
