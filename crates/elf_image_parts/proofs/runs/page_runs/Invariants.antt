use Rattle.std.proofs.Common.{◌-◌}
use Rattle.elf_definition.specs.Start as start
use Rattle.elf_image_parts.proofs.RunLemmas.{AreRunsBelow}
use Rattle.elf_image_parts.proofs.runs.page_runs.Given as goal

abbrev pub invariant-loop-page : goal.invariant-loop-page
invariant-loop-page l = AreRunsBelow (start.readable l.image) (start.writable l.image) l.runs.items l.page

abbrev pub decreases-loop-page : goal.decreases-loop-page
decreases-loop-page l = 524288 - l.page
