use Rattle.std.proofs.Common.{◌≡◌, ◌-◌, ◌≤◌, replicate, length, None}
use Rattle.frame_maps.proofs.placing.no_frames.Given as goal

abbrev pub invariant-loop-frames : goal.invariant-loop-frames
invariant-loop-frames l = (length l.frames.items ≤ l.count) × (l.frames.items ≡ replicate (length l.frames.items) None)

abbrev pub decreases-loop-frames : goal.decreases-loop-frames
decreases-loop-frames l = l.count - length l.frames.items
