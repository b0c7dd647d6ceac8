use Rattle.std.proofs.Common.{◌+◌, ◌^◌, ◌<◌, ◌&&◌, take, IfSome}
use Rattle.std.specs.List.{list_any}
use Rattle.elf_definition.specs.Area.{range_is_on_page}
use Rattle.elf_reader.specs.Spans.{are_within, IsLeastFrom}
use Rattle.elf_reader.proofs.area_checks.least_shared.Given as goal

abbrev pub invariant-loop-r : goal.invariant-loop-r
invariant-loop-r l = record {
  least : IsLeastFrom 0 (λ page. list_any (range_is_on_page page) (take l.r-index l.ranges) && are_within page (page + 1) l.pages) l.least;
  bound : IfSome l.least (λ i. i < 2 ^ 20);
}
