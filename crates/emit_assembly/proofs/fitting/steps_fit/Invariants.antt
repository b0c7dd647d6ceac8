use Rattle.std.proofs.Common.{◌≡◌, drop}
use Rattle.emit_steps.specs.Widths.{bytes_before}
use Rattle.emit_assembly.specs.Operations.{steps_fit}
use Rattle.emit_assembly.proofs.fitting.steps_fit.Given as goal

-- the steps that are left decide
abbrev pub invariant-loop-i : goal.invariant-loop-i
invariant-loop-i l = record {
  at : l.at ≡ bytes_before l.code l.i;
  left : steps_fit l.references l.code l.at (drop l.i l.code) ≡ steps_fit l.references l.code 0 l.code;
}
