use Rattle.std.proofs.Common.{◌≡◌, length}
use Rattle.frame_maps.proofs.PlacingLaws.{IsPlacing}
use Rattle.frame_maps.proofs.placing.placed.Given as goal

abbrev pub invariant-loop-at : goal.invariant-loop-at
invariant-loop-at l =
    (length l.frames.items ≡ length l.code.starts.items)
    × IsPlacing l.code.method.now l.fn.listed.items l.rest.items l.frames.items

abbrev pub decreases-loop-at : goal.decreases-loop-at
decreases-loop-at l = length l.rest.items
