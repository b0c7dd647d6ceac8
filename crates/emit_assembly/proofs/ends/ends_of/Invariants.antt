use Rattle.std.proofs.Common.{◌≡◌, length}
use Rattle.emit_steps.specs.Widths.{bytes_before}
use Rattle.emit_steps.proofs.Offsets.{AreEnds}
use Rattle.emit_assembly.proofs.ends.ends_of.Given as goal

abbrev pub invariant-loop-step : goal.invariant-loop-step
invariant-loop-step l = record {
  end : l.end ≡ bytes_before l.code l.step-index;
  len : length l.ends.items ≡ l.step-index;
  ends : AreEnds l.code l.ends.items l.step-index;
}
