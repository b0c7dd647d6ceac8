use Rattle.std.proofs.Common.{◌≡◌, ◌++◌}
use Rattle.emit_instructions.proofs.access.append_steps.Given as goal

abbrev pub invariant-loop-step : goal.invariant-loop-step
invariant-loop-step g l = l.code.items ≡ l.initial.code.items ++ l.yielded
