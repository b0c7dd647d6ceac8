use Rattle.std.proofs.Common.{length}
use Rattle.stackmap_table.proofs.MeaningLaws.{IsReading}
use Rattle.stackmap_table.proofs.meaning.frames_from.Given as goal

abbrev pub invariant-loop-frame : goal.invariant-loop-frame
invariant-loop-frame l =
    IsReading l.pool l.method.locals l.method.stack l.method.parameters l.frames l.rest l.listed.items l.last

abbrev pub decreases-loop-frame : goal.decreases-loop-frame
decreases-loop-frame l = length l.rest
