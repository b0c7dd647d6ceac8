use Rattle.std.proofs.Common.{◌≡◌, length, max}
use Rattle.emit_spans.specs.Locals.{locals_of}
use Rattle.emit_spans.proofs.locals.locals_of.Given as goal

-- those so far, and those of the steps that are left
abbrev pub invariant-loop-step : goal.invariant-loop-step
invariant-loop-step l = max l.locals (locals_of l.rest) ≡ locals_of l.code

abbrev pub decreases-loop-step : goal.decreases-loop-step
decreases-loop-step l = length l.rest
