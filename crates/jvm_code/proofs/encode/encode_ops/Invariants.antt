use Rattle.std.proofs.Common.{◌≡◌, ◌++◌, length}
use Rattle.jvm_code.proofs.ReadBack.{spelling, LaidSomewhere}
use Rattle.jvm_code.proofs.encode.encode_ops.Given as goal

-- what was appended, and what the rest will be, is what all are
abbrev pub invariant-loop-line : goal.invariant-loop-line
invariant-loop-line l = (l.code.items ++ spelling l.rest ≡ spelling l.lines) × LaidSomewhere l.rest

abbrev pub decreases-loop-line : goal.decreases-loop-line
decreases-loop-line l = length l.rest
