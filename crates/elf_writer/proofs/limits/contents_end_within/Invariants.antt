use Rattle.std.proofs.Common.{◌≡◌, ◌≤◌, length}
use Rattle.elf_definition.specs.FilePlaces.{contents_end}
use Rattle.elf_writer.proofs.limits.contents_end_within.Given as goal

-- the end behind the rest is the end behind them all, and the file is not too long so far
abbrev pub invariant-loop-part : goal.invariant-loop-part
invariant-loop-part l = (contents_end l.at l.rest ≡ contents_end l.start l.segments) × (l.at ≤ 67108864)

abbrev pub decreases-loop-part : goal.decreases-loop-part
decreases-loop-part l = length l.rest
