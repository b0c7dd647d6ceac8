use Rattle.std.proofs.Common.{length}
use Rattle.class_reader.proofs.ApartLaws.{AreApart}
use Rattle.class_reader.proofs.framed_parts.apart.Given as goal

abbrev pub invariant-loop-method : goal.invariant-loop-method
invariant-loop-method l = AreApart l.fn.framed.items l.rest.items l.methods.items l.tables.items

abbrev pub decreases-loop-method : goal.decreases-loop-method
decreases-loop-method l = length l.rest.items
