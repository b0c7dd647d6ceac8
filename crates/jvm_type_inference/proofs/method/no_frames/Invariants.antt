use Rattle.std.proofs.Common.{◌≡◌, ◌-◌, ◌≤◌, replicate, length, None, vec_capacity}
use Rattle.jvm_type_inference.proofs.method.no_frames.Given as goal

abbrev pub invariant-loop-frames : goal.invariant-loop-frames
invariant-loop-frames l =
    (length l.frames.items ≤ l.count)
    × ((vec_capacity l.frames ≡ l.count) × (l.frames.items ≡ replicate (length l.frames.items) None))

abbrev pub decreases-loop-frames : goal.decreases-loop-frames
decreases-loop-frames l = l.count - length l.frames.items
