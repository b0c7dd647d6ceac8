use Rattle.std.proofs.Common.{◌≡◌, length}
use Rattle.class_definition.specs.Code.{line_target_fault}
use Rattle.jvm_code.proofs.marks.target_fault.Given as goal

abbrev pub invariant-loop-line : goal.invariant-loop-line
invariant-loop-line l = line_target_fault l.lines l.rest ≡ line_target_fault l.lines l.lines

abbrev pub decreases-loop-line : goal.decreases-loop-line
decreases-loop-line l = length l.rest
