use Rattle.std.proofs.Common.{◌-◌, ◌+◌, ◌≤◌, ◌^◌}
use Rattle.elf_definition.specs.Start as start
use Rattle.elf_image_parts.specs.Runs.{AreAlike}
use Rattle.elf_image_parts.proofs.runs.run_at.Given as goal

abbrev pub invariant-loop-count : goal.invariant-loop-count
invariant-loop-count l =
    (1 ≤ l.count) × (l.count ≤ 65536) × (l.first + l.count ≤ 2 ^ 19)
    × AreAlike (start.readable l.image) (start.writable l.image) l.first l.writable l.count

abbrev pub decreases-loop-count : goal.decreases-loop-count
decreases-loop-count l = 65536 - l.count
