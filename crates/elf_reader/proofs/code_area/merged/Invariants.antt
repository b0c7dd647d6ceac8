use Rattle.std.proofs.Common.{◌≡◌, ℕ, ◌^◌, ◌<◌, ◌≤◌, ◌++◌, length, drop, get_or}
use Rattle.elf_definition.specs.Area.{range_end}
use Rattle.elf_definition.specs.declared.range.Range.{Range}
use Rattle.elf_reader.proofs.RunLemmas.{merge_from}
use Rattle.elf_reader.proofs.code_area.merged.Given as goal

abbrev pub invariant-loop-r : goal.invariant-loop-r
invariant-loop-r l = record {
  value : l.runs.items ++ merge_from l.run (drop l.r-index l.ranges) ≡ merge_from (get_or l.ranges 0 (record { first = 0; words = 0 })) l.ranges;
  low : range_end l.run ≤ 2 ^ 32;
  after : (k : ℕ) (d : Range) → l.r-index ≤ k → k < length l.ranges → l.run.first ≤ (get_or l.ranges k d).first;
}
