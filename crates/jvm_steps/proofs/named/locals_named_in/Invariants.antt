use Rattle.std.proofs.Common.{◌≡◌, length, max}
use Rattle.jvm_steps.specs.Named.{locals_named_in}
use Rattle.jvm_steps.proofs.named.locals_named_in.Given as goal

-- those so far, and those of the lines that are left
abbrev pub invariant-loop-line : goal.invariant-loop-line
invariant-loop-line l = max l.locals (locals_named_in l.rest) ≡ locals_named_in l.lines

abbrev pub decreases-loop-line : goal.decreases-loop-line
decreases-loop-line l = length l.rest
