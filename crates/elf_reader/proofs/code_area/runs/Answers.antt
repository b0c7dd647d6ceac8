use Rattle.std.proofs.Common.{◌%◌, ◌^◌, ◌≤◌, ◌≡◌}
use Rattle.std.proofs.lemmas.Result.{IfOk-weaker}
use Rattle.elf_definition.specs.declared.range.Range.{Range}
use Rattle.elf_definition.specs.Area.{range_end}
use Rattle.elf_reader.proofs.RunLemmas.{kept_all, kept_filled, kept_runs}
use Rattle.elf_reader.proofs.code_area.runs.Goals as goal

pub merged-requires-clause-filled : goal.merged-requires-clause-filled
merged-requires-clause-filled c =
    kept_filled c.args.ranges.now c.in_ok-filled.field-0.items c.in_ok-sorted.sorted.items c.as_slice.result.now
    c.in_ok-filled.ensures c.in_ok-sorted.ensures.same c.as_slice.ensures.value

pub merged-requires-clause-aligned : goal.merged-requires-clause-aligned
merged-requires-clause-aligned c =
    kept_all (λ (r : Range). r.first % 4 ≡ 0) c.args.ranges.now c.in_ok-filled.field-0.items c.in_ok-sorted.sorted.items c.as_slice.result.now
    c.in_ok-filled.ensures c.in_ok-sorted.ensures.same c.as_slice.ensures.value c.requires.aligned

pub merged-requires-clause-low : goal.merged-requires-clause-low
merged-requires-clause-low c =
    kept_all (λ (r : Range). range_end r ≤ 2 ^ 32) c.args.ranges.now c.in_ok-filled.field-0.items c.in_ok-sorted.sorted.items c.as_slice.result.now
    c.in_ok-filled.ensures c.in_ok-sorted.ensures.same c.as_slice.ensures.value c.requires.low

pub returns : goal.returns
returns c =
    IfOk-weaker c.merged.result _ _
    (λ v found. kept_runs c.args.ranges.now c.in_ok-filled.field-0.items c.in_ok-sorted.sorted.items c.as_slice.result.now v.items
    c.in_ok-filled.ensures c.in_ok-sorted.ensures.same c.as_slice.ensures.value found)
    c.merged.ensures
