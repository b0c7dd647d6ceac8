use Rattle.std.proofs.Common.{◌≡◌, ◌<◌, ◌^◌}
use Rattle.emit_steps.specs.Widths.{bytes_before}
use Rattle.emit_steps.proofs.sizes.code_size.Given as goal

abbrev pub invariant-loop-step : goal.invariant-loop-step
invariant-loop-step l = record {
  sofar : l.size ≡ bytes_before l.code l.step-index;
  low : l.size < 2 ^ 32;
}
