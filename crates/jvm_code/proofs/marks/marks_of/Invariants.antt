use Rattle.std.proofs.Common.{take}
use Rattle.jvm_code.specs.Answer.{AreMarks}
use Rattle.jvm_code.proofs.marks.marks_of.Given as goal

abbrev pub invariant-loop-line : goal.invariant-loop-line
invariant-loop-line l = AreMarks (take l.line-index l.lines) l.marks.items
