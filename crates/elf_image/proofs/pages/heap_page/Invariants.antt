use Rattle.std.proofs.Common.{◌≡◌, ◌≤◌, max, take, ◌+◌, ◌/◌}
use Rattle.std.specs.List.{fold}
use Rattle.elf_definition.specs.Segments.{segment_end}
use Rattle.elf_image.proofs.pages.heap_page.Given as goal

abbrev pub invariant-loop-s : goal.invariant-loop-s
invariant-loop-s l = record { value : l.page ≡ fold (λ page s. max page ((segment_end s + 4095) / 4096)) 0 (take l.s-index l.segments); bound : l.page ≤ 0x7F000 }
