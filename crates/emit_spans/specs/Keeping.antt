-- Code that keeps to its span before it is laid down: it goes on to addresses of words of the span alone, and it has no switch.
use Rattle.std.specs.Prelude.{Bool, true, false}
use Rattle.emit_steps.specs.declared.step.Step.{Step}
use Rattle.emit_steps.specs.declared.step.Step.TheVariants.{Does, Skips, Leaves, Selects}
use Rattle.word_emitter.specs.declared.extent.Extent.{Extent}
use Rattle.word_emitter.specs.Exits.{has}

abbrev pub keeps_to : Extent → Step → Bool
keeps_to span (Does instruction) = true
keeps_to span (Skips name k) = true
keeps_to span (Leaves at) = has span at
keeps_to span (Selects s) = false
