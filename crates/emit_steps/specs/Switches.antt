-- Where the switches of code stand.
use Rattle.std.specs.Prelude.{◌+◌, ◌%◌, ◌==◌, Bool, true, ◌&&◌, List, [], ◌∷◌}
use Rattle.emit_steps.specs.declared.step.Step.{Step}
use Rattle.emit_steps.specs.declared.step.Step.TheVariants.{Does, Skips, Leaves, Selects}
use Rattle.emit_steps.specs.Widths.{width}
use Rattle.emit_steps.specs.Offsets.{CodeOffset}

-- a step at an offset, if it is a switch: the offset leaves 3 modulo 4
abbrev pub needs_no_padding : CodeOffset → Step → Bool
needs_no_padding at (Does instruction) = true
needs_no_padding at (Skips name k) = true
needs_no_padding at (Leaves target) = true
needs_no_padding at (Selects s) = at % 4 == 3

-- no switch of code at an offset needs padding
abbrev pub switches_are_placed : CodeOffset → List Step → Bool
switches_are_placed at [] = true
switches_are_placed at (s ∷ code) = needs_no_padding at s && switches_are_placed (at + width s) code
