use Rattle.std.proofs.Common.{length}
use Rattle.jvm_type_inference.proofs.TableLaws.{IsTableFrom}
use Rattle.jvm_type_inference.proofs.code.starts_of.Given as goal

abbrev pub invariant-loop-line : goal.invariant-loop-line
invariant-loop-line l = IsTableFrom l.lines l.rest l.starts.items (length l.initial.starts.items)

abbrev pub decreases-loop-line : goal.decreases-loop-line
decreases-loop-line l = length l.rest
