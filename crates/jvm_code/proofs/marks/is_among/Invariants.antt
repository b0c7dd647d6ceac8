use Rattle.std.proofs.Common.{◌≡◌, length}
use Rattle.class_definition.specs.Code.{is_line}
use Rattle.jvm_code.proofs.marks.is_among.Given as goal

abbrev pub invariant-loop-line : goal.invariant-loop-line
invariant-loop-line l = is_line l.rest l.target ≡ is_line l.lines l.target

abbrev pub decreases-loop-line : goal.decreases-loop-line
decreases-loop-line l = length l.rest
