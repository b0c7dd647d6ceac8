use Rattle.std.proofs.Common.{length}
use Rattle.stackmap_table.proofs.WrittenLaws.{IsWriting}
use Rattle.stackmap_table.proofs.table.append_frames.Given as goal

abbrev pub invariant-loop-next : goal.invariant-loop-next
invariant-loop-next l = IsWriting l.pool l.parameters l.listed l.fn.bytes.items l.last l.before l.rest l.bytes.items

abbrev pub decreases-loop-next : goal.decreases-loop-next
decreases-loop-next l = length l.rest
